pub mod Stage
pub mod StepAhead
pub mod Windows
pub mod Holds
