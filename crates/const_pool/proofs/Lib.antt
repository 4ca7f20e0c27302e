pub mod EntryLists
pub mod FirstNumbers
pub mod FormedMembers
pub mod Interned
