mod Examples
mod Found
mod Least
mod OfPlan
mod ReadBetween
mod SpareFound
mod SpareTables
mod Tables
