pub mod Detector
pub mod Ranges
pub mod Lends
pub mod Laws
pub mod Theorems
