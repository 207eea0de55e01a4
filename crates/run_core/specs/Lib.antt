pub mod Standings
pub mod Core
pub mod Idle
