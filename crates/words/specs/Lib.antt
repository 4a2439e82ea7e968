pub mod Line
pub mod Word
pub mod Number
pub mod Numbers
pub mod Examples
