pub mod AccessFlags
pub mod Digits
pub mod Judgements
