pub mod Size
pub mod Shown
pub mod Examples
