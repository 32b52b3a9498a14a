pub mod CutLemmas
pub mod DigitLemmas
pub mod KeyBytes
pub mod KeyLemmas
pub mod NameLemmas
pub mod PlaceLemmas
