pub mod Signed
pub mod Holding
pub mod Calling
pub mod AnyOrder
pub mod Demands
