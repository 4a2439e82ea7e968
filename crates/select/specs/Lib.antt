pub mod Table
pub mod Word
pub mod Row
pub mod Contract
