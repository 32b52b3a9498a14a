pub mod BrokenTexts
pub mod EndTimes
pub mod Happenings
pub mod KeptSpans
pub mod Stops
pub mod UnderWay
