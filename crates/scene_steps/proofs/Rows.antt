-- The spans of a changed list of jobs and points are the changed spans.
pub mod Bare
pub mod Cuts
pub mod Cycles
pub mod Due
pub mod FirstSpans
pub mod JobWorks
pub mod Later
pub mod NextRows
pub mod Works
