pub mod Blocks
pub mod Digits
pub mod ReadRuns
pub mod TakenLines
pub mod ThreeDigits
