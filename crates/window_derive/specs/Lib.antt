pub mod Chains
pub mod FaultTexts
pub mod GraphChains
pub mod Marks
pub mod Orders
pub mod PrecedenceKept
