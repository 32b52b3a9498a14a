pub mod Rounding
pub mod Derived
pub mod FaultTexts
