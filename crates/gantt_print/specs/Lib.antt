pub mod Drawings
pub mod DrawingLaws
pub mod Rows
