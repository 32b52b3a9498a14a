pub mod Commands
pub mod FaultTexts
pub mod LineLaws
pub mod Lines
pub mod Rows
