mod Examples
pub mod Reading
pub mod Tables
