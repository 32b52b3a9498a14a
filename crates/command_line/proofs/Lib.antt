pub mod CommandLemmas
pub mod JoinedTexts
pub mod NumberLemmas
pub mod PartWritings
