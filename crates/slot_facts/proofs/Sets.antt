-- What the tests of a task set say of its numbers and names.
pub mod Faults
pub mod Ranges
pub mod Sizes
pub mod Tasks
