-- The jobs of a history that have not ended.
pub mod Unended
