pub mod Printed
pub mod Appends
