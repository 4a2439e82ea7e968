pub mod Decimals
pub mod Numerals
pub mod Spacing
pub mod Zeros
