mod GroupRows
mod Parts
mod Ranks
mod Sorts
