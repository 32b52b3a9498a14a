pub mod Bars
pub mod Steps
