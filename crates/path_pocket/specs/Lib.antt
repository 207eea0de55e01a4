pub mod Inset
