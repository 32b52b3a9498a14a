pub mod Adding
pub mod Arrays
pub mod Insides
pub mod Least
pub mod Starts
pub mod Sums
