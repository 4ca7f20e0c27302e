pub mod Answering
pub mod Lines
pub mod Reading
pub mod Results
pub mod Taking
