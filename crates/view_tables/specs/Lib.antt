pub mod Columns
pub mod LineRows
pub mod Tables
