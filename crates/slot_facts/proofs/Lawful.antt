-- Lawful histories: what each keeps, that it is served, and that every legal history is one.
pub mod Data
pub mod FromLegal
pub mod InTime
pub mod Owned
pub mod Served
pub mod Traces
