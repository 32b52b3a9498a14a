pub mod Readings
pub mod Sets
pub mod Stages
pub mod Steps
