-- What can be served: every legal history, offers exactly where there is room, and feasible sets.
pub mod Answers
pub mod Exact
pub mod Room
pub mod Served
pub mod Verdicts
