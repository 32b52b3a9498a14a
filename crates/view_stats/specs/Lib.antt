pub mod Examples
pub mod Figures
pub mod Groups
pub mod Laws
pub mod Ordered
pub mod Outcomes
pub mod StatRows
pub mod Tables
