pub mod Files
pub mod HelpNumbers
pub mod Refused
pub mod Told
