pub mod Checked
pub mod Dues
pub mod Lacks
pub mod Laws
pub mod Offers
pub mod SceneLines
pub mod SoftSlots
pub mod Verdicts
