pub mod Job
pub mod Written
pub mod Check
pub mod Choose
pub mod Run
pub mod Holds
pub mod Examples
