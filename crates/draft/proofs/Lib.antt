pub mod Widths
pub mod Digits
pub mod Kept
pub mod HandedBack
pub mod Owned
pub mod Printed
pub mod Parts
pub mod Framed
