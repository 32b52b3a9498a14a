mod Exact
pub mod FewWindows
mod Guaranteed
mod Kept
mod Lefts
mod Most
mod Sparse
mod SpareAccepted
mod SpareCycle
pub mod Windows
