pub mod TreeLemmas
pub mod FaultLemmas
pub mod StepLemmas
pub mod JudgeLemmas
pub mod StepFaultLemmas
pub mod AcceptLemmas
pub mod VerdictLemmas
pub mod Rows
