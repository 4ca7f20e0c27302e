pub mod Collecting
pub mod Placing
pub mod Searching
pub mod Shortening
pub mod SwitchLists
