pub mod Between
pub mod Executives
pub mod MorePoints
pub mod Points
pub mod Proper
pub mod Turns
