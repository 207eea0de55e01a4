pub mod Unique
pub mod Heights
pub mod Keeping
pub mod Looking
