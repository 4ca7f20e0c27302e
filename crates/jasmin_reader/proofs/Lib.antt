pub mod LastValues
pub mod LinesRead
pub mod MemberNames
pub mod NotedMembers
