pub mod Record
pub mod Name
pub mod Show
pub mod Numbered
pub mod Command
pub mod Examples
