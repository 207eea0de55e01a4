pub mod Reach
pub mod Versions
pub mod StepSet
pub mod Versioned
pub mod Users
pub mod Kept
