-- What may come of sporadic tasks, and which sets fit.
pub mod Sporadics
pub mod Feasible
