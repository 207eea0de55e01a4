pub mod Script
pub mod Refused
pub mod Edits
pub mod Reads
pub mod Source
pub mod Judged
pub mod Errors
pub mod Gathering
