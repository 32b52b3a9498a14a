pub mod Answers
pub mod Causes
pub mod Pages
pub mod Questions
pub mod Supplies
