pub mod CutsLemmas
pub mod Lengths
pub mod Ranges
pub mod PartLemmas
