-- Scenes that are the same change in the same way, and are answered and shown in the same way; so an event
-- that makes the step does what the model does.
pub mod Events
pub mod FirstScene
pub mod SameAnswers
pub mod SameChoices
pub mod SameLawful
pub mod SameNeeds
pub mod SameScenes
pub mod SameSearches
pub mod SameSpans
pub mod SameSteps
pub mod SameTold
