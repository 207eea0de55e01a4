pub mod Line
pub mod LinesFrom
pub mod LogText
pub mod BlocksText
