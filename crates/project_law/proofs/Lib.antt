pub mod MoveLemmas
pub mod SoundLemmas
pub mod EndingLemmas
pub mod LengthLemmas
pub mod Rows
