pub mod Records
pub mod Examples
