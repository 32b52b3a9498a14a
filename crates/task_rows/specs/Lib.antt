pub mod Laws
pub mod Marks
pub mod Pictures
pub mod Rows
