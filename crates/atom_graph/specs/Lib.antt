pub mod Checked
pub mod Checking
pub mod Reduced
pub mod Suffices
pub mod StoredTrace
pub mod Watched
