pub mod Due
pub mod Found
pub mod Keys
pub mod Spare
pub mod Stairs
