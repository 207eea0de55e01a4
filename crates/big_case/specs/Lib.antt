pub mod Draws
pub mod Parameters
pub mod Project
pub mod Script
pub mod Adds
