pub mod FaultTexts
pub mod Laws
pub mod Rows
pub mod Texts
pub mod Traces
