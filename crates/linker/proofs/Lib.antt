pub mod AncestryLaws
pub mod DistinctNames
pub mod FirstPlaces
pub mod RepeatedNames
pub mod SetLaws
pub mod SpelledTexts
pub mod Refused
