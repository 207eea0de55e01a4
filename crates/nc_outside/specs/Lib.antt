pub mod Outside
pub mod MemoryState
pub mod SinkState
pub mod Gathered
