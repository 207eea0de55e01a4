pub mod BitLemmas
pub mod SumLemmas
pub mod LevelLemmas
pub mod BlankLemmas
pub mod NextLemmas
