pub mod Numbers
pub mod Pieces
pub mod Puts
pub mod Within
