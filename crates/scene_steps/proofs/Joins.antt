-- A guaranteed job more: the place that it finds, and the spans that it leaves.
pub mod JoinedSpans
pub mod JoinedScenes
pub mod OfferEvents
