pub mod Faults
pub mod Forms
pub mod Grammar
pub mod Readers
pub mod Sizes
