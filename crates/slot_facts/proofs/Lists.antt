-- Lists: members, tests, sums, and lists with the same items.
pub mod Apart
pub mod ApartKeys
pub mod Changed
pub mod FirstSome
pub mod Maps
pub mod Matched
pub mod MemberSums
pub mod Members
pub mod Permuted
pub mod RangeFilters
pub mod RangeSearch
pub mod SameItems
pub mod Sums
pub mod Tests
