pub mod Carrying
pub mod Changed
pub mod Laws
pub mod Lists
pub mod Offers
pub mod SoftWork
