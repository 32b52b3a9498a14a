pub mod Causes
pub mod HelpNumbers
