pub mod Format
pub mod Range
pub mod Apart
pub mod LogReads
pub mod Reading
pub mod Steps
