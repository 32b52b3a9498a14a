pub mod Commands
pub mod Pages
pub mod Refusals
pub mod Reports
pub mod Statuses
pub mod Writings
