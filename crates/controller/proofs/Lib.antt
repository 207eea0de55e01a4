pub mod NumeralsLemmas
pub mod CommandLemmas
pub mod LawsLemmas
pub mod SameEdits
pub mod AnswersLemmas
pub mod RefusalLemmas
pub mod CallsLemmas
pub mod TopCallsLemmas
