pub mod Parts
pub mod Scale
pub mod Digits
pub mod Sizes
pub mod OneReading
pub mod Answering
