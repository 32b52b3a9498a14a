-- An early end and a withdrawal: which job each ends, what it frees, and what it leaves.
pub mod EndAnswers
pub mod EndedScenes
pub mod EndedSpans
pub mod EndEvents
pub mod Started
pub mod Withdrawals
