pub mod Fault
pub mod Joins
pub mod Answer
pub mod History
pub mod Examples
