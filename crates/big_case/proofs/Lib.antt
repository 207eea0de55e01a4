mod Putting
mod DrawLemmas
mod Fine
mod Rising
mod StepRises
mod FrontRises
mod Whole
