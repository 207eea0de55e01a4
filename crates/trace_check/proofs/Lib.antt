pub mod StrayLemmas
pub mod NextLemmas
