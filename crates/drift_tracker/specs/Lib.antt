pub mod Drift
pub mod Layout
pub mod Lends
pub mod Laws
