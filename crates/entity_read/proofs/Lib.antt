pub mod Trees
pub mod Fields
