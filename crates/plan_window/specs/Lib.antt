pub mod Window
pub mod Kept
