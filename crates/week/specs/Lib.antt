pub mod Record
pub mod Order
pub mod Numbers
pub mod Written
pub mod Ordered
pub mod Refusal
pub mod Fault
pub mod RefusalOrder
