pub mod EventPlaces
pub mod EventTurns
pub mod Explanations
pub mod Places
pub mod Stops
pub mod Throws
