pub mod Documents
pub mod EachLoop
pub mod FieldShapes
pub mod ItemsLoop
pub mod JoinedTasks
pub mod Shapes
