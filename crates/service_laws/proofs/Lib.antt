mod Earlier
mod LineCuts
mod LineEntries
mod LineSpans
mod LineWords
mod Pushed
mod SoftWork
mod Stacks
