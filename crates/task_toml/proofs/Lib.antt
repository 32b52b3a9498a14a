pub mod Documents
pub mod EachLoop
pub mod FieldRanges
pub mod ItemsLoop
pub mod JoinedTasks
pub mod ShapeRanges
pub mod SoundReadings
