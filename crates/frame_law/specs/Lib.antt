pub mod Executable
pub mod Onward
pub mod Way
pub mod ComeTo
pub mod Looks
