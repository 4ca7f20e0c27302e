pub mod Assembled
pub mod Begun
pub mod Leading
pub mod Joined
pub mod Lengths
pub mod Written
