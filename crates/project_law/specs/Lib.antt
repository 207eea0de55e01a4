pub mod Script
pub mod Variables
pub mod Paths
pub mod ProjectRules
pub mod Legal
pub mod Run
