pub mod Walk
pub mod WellFormed
pub mod Fit
pub mod AnyOrder
pub mod DueOrder
pub mod Sound
pub mod Written
pub mod Holding
