pub mod Does
pub mod Pass
