pub mod Line
pub mod Report
pub mod Contract
pub mod Examples
