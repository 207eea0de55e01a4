pub mod OverHole
