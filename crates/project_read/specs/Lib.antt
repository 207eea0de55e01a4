pub mod Typing
pub mod Holds
pub mod Refuses
pub mod Errors
pub mod Reads
pub mod Gathered
