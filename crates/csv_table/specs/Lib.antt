pub mod Cells
pub mod Examples
pub mod FaultTexts
pub mod Tables
pub mod Writers
