pub mod IndexLaws
pub mod RemovalLaws
