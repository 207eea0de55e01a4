pub mod Number
pub mod Reading
pub mod Thousandths
pub mod View
