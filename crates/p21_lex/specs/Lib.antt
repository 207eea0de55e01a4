pub mod Class
pub mod Number
pub mod Scan
pub mod Front
pub mod Tokens
pub mod Reading
pub mod Refusal
pub mod Slice
