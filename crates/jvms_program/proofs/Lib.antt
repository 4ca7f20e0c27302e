pub mod FrequentLaws
pub mod MemberOrderLaws
pub mod ProgramLaws
