pub mod NumberLemmas
pub mod TurnLemmas
pub mod RenewLemmas
pub mod OpenLemmas
