pub mod Class
pub mod Table
pub mod Fits
pub mod Entity
pub mod Target
