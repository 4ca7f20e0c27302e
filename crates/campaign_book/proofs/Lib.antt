pub mod Found
pub mod History
