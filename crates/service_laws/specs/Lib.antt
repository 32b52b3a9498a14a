pub mod Nesting
pub mod SoftWork
