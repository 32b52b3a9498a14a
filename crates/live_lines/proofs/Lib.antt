pub mod ByteLemmas
pub mod CommandLemmas
pub mod PieceLemmas
