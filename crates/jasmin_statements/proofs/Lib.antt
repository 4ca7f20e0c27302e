pub mod Lengths
pub mod TokenLists
