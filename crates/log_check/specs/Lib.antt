pub mod Ending
pub mod Checked
