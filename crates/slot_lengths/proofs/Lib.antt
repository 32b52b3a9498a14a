mod Least
mod Listed
mod Loops
mod Orders
mod Parts
mod Works
