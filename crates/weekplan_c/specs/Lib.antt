pub mod Call
pub mod Holds
