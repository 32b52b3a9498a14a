pub mod ChainArrays
pub mod ChainSteps
pub mod LoopLemmas
pub mod OrderLemmas
pub mod PrecedenceLemmas
pub mod SoundSets
pub mod StuckLemmas
