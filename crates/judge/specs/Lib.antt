pub mod BatchFault
pub mod Fault
pub mod Faultless
pub mod Fit
pub mod Holds
