mod Asked
pub mod CountLaws
mod EffectLaws
mod FieldPlaces
