-- Texts and numbers that are printed.
pub mod Texts
pub mod FaultTexts
pub mod FaultNumbers
pub mod Reports
pub mod Charts
