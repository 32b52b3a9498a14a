-- A run: histories, scenes, choices, spans, answers and traces.
pub mod Rising
pub mod Histories
pub mod Points
pub mod Scenes
pub mod Demand
pub mod Choice
pub mod Spans
pub mod ShownSpans
pub mod Answers
pub mod Arrivals
pub mod Traces
pub mod Matches
