pub mod Model
pub mod Rule
pub mod Choice
pub mod Best
pub mod Stretches
pub mod Contract
