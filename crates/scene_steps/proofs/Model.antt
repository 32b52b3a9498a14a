-- The histories of the model and the scene steps: each entry of a legal or lawful history changes its scene by its step.
pub mod Arrivals
pub mod Ends
pub mod Histories
pub mod Lawful
pub mod NewKeys
pub mod Points
pub mod Slots
pub mod SoftJobs
