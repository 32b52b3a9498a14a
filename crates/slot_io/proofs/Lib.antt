pub mod Counts
pub mod LineTexts
pub mod SinkParts
