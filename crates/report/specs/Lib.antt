pub mod CycleTexts
pub mod Marks
pub mod SerialTexts
pub mod VerdictTexts
