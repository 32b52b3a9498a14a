-- A sporadic arrival: what it is answered, and what it adds.
pub mod SporadicArrivals
