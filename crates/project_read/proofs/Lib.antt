pub mod OneProject
pub mod Typing
pub mod Storing
pub mod Holding
pub mod Progress
