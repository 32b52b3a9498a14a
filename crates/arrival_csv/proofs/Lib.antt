pub mod FieldLemmas
pub mod FittingLemmas
pub mod PlainLemmas
pub mod QuickLemmas
pub mod ReadArrivals
pub mod ReadingSteps
pub mod RecordLemmas
