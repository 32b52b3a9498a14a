-- What is kept from event to event.
pub mod Kept
pub mod Plans
pub mod Executives
