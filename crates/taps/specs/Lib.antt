pub mod TapBits
pub mod Taps
