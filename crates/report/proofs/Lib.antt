pub mod BatchLines
pub mod Ended
pub mod Reporting
pub mod Said
pub mod Demands
