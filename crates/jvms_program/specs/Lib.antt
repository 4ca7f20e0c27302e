pub mod BuiltIn
pub mod Frequent
pub mod Meaning
pub mod MemberOrders
pub mod Program
pub mod Resolution
pub mod Slots
