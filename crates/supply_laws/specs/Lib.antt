pub mod Windows
pub mod Requests
pub mod Spare
pub mod Laws
