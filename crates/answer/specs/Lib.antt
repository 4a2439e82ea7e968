pub mod Line
pub mod Answer
pub mod Examples
