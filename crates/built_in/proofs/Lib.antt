pub mod BuiltInLaws
