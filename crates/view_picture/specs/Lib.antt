pub mod Backdrops
pub mod Blocks
pub mod Examples
pub mod FaultTexts
pub mod Marks
pub mod Places
pub mod Styles
pub mod Titles
