pub mod Picks
pub mod Rows
