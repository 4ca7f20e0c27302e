pub mod CountedLaws
pub mod DescriptorLaws
pub mod FrontLaws
pub mod LongLaws
mod NumberLaws
pub mod TextLaws
