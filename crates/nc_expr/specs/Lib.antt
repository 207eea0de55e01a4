pub mod Term
pub mod Value
pub mod Vars
pub mod Codes
