mod Counted
mod LineTexts
mod Square
