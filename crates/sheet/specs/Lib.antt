pub mod Hex
pub mod Line
pub mod Frame
pub mod Fault
pub mod List
pub mod Read
pub mod Holds
pub mod Examples
