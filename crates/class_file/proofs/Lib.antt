pub mod Answered
pub mod FormedDescriptors
pub mod Handlers
pub mod SeenMembers
pub mod Written
pub mod WrittenAttributes
pub mod WrittenLists
pub mod WrittenPools
