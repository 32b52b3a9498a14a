-- What the scene of a legal history is like, and that of each executive that stands for one.
pub mod AfterChoice
pub mod AnySlots
pub mod Choices
pub mod ProperScenes
pub mod ScenePoints
pub mod SceneWork
pub mod SoftRuns
pub mod Turns
