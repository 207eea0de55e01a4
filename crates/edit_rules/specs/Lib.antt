pub mod Faults
pub mod Errors
pub mod Steps
pub mod Project
pub mod Judge
pub mod Judging
