pub mod Settling
pub mod Layout
pub mod Sweeps
pub mod Stores
pub mod Numbers
pub mod Quads
pub mod Groups
