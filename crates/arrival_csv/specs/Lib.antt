pub mod Kinds
pub mod Quick
pub mod Reading
pub mod Rows
pub mod SoFar
