pub mod FaultTexts
pub mod Faults
pub mod Files
pub mod Sinks
