pub mod Placed
pub mod Within
pub mod Onward
pub mod Rows
pub mod Filled
pub mod Table
