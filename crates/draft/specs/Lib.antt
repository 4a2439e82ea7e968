pub mod Record
pub mod List
pub mod Sheet
pub mod Examples
