pub mod ListLemmas
pub mod StepLemmas
pub mod WindowLemmas
pub mod StoreLemmas
pub mod ChannelLemmas
pub mod WindowMoves
