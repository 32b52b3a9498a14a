pub mod Examples
pub mod Laws
pub mod Levels
pub mod Steps
pub mod WaveTexts
