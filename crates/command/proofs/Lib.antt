pub mod Lending
pub mod Choices
pub mod Names
