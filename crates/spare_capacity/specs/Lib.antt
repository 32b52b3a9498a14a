pub mod Available
pub mod Examples
pub mod Laws
pub mod Lending
pub mod PlanSpans
pub mod Recurrence
pub mod Refill
