pub mod Lines
pub mod MarginLines
pub mod Texts
