pub mod WordsRead
pub mod BlocksRead
pub mod EntriesRead
pub mod RowsRead
pub mod Places
pub mod Answering
pub mod Stepping
pub mod OneReading
