-- What a slot runs, and what it makes of the parts of an executive.
pub mod Chosen
pub mod NewParts
pub mod Places
pub mod Runs
pub mod Turns
