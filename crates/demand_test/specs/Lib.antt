pub mod EndTables
pub mod Totals
pub mod Verdicts
