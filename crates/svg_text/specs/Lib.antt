pub mod Content
pub mod Shapes
