pub mod Faults
pub mod Answering
pub mod HandedBack
pub mod Joining
pub mod Named
pub mod Histories
pub mod Demands
