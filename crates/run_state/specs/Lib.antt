pub mod Pages
pub mod State
pub mod Opening
pub mod Kept
pub mod Kinds
pub mod Edits
pub mod Actions
