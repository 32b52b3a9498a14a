pub mod KeyTexts
pub mod Numbers
pub mod Options
