pub mod Records
pub mod Demands
