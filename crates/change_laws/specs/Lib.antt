pub mod Carried
pub mod Demand
pub mod Grants
pub mod Laws
pub mod Literal
