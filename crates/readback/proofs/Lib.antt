pub mod HexBytes
pub mod FrameBack
pub mod ReadBack
