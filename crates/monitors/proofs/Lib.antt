pub mod HoldLaws
pub mod WaiterLaws
