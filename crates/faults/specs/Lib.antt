pub mod ArrivalNumbers
pub mod ArrivalTexts
pub mod TableNumbers
pub mod TableTexts
pub mod TableSources
pub mod VerifyTexts
