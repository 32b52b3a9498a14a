pub mod Curves
pub mod OfSets
pub mod StepReads
