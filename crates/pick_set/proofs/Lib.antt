pub mod ListLemmas
pub mod SparseLemmas
pub mod LayoutLemmas
pub mod AddLemmas
pub mod WriteLemmas
