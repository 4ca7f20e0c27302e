pub mod Accesses
pub mod ItemsBetween
pub mod Joins
pub mod LowestCalls
pub mod Progress
