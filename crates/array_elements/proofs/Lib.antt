pub mod ElementLaws
pub mod KindLaws
pub mod Lists
pub mod SameLaws
