pub mod FaultTexts
pub mod Reading
pub mod UnitFields
