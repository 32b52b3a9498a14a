pub mod AsciiContent
pub mod WellFormed
