pub mod Views
pub mod Numbers
