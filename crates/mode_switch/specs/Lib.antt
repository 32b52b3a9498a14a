pub mod DueTables
pub mod FaultTexts
pub mod Keeping
pub mod Laws
pub mod Naming
pub mod Parts
pub mod Runs
pub mod Texts
