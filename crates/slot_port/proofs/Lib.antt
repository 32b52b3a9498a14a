pub mod FixedKeys
pub mod FixedNumbers
pub mod PassedSlots
