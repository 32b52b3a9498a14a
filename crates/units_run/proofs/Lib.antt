mod Refused
mod Seen
mod Timed
