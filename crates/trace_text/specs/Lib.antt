pub mod Extents
pub mod RunLines
pub mod TakerLaws
pub mod Takers
pub mod Threes
