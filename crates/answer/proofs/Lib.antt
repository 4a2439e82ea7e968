pub mod Widths
pub mod Each
pub mod Answering
