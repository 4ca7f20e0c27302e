pub mod Joins
pub mod Numbers
pub mod Orders
pub mod Sums
pub mod Texts
