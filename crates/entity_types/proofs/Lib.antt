pub mod FitsLemmas
pub mod KeywordLemmas
