pub mod Arrivals
pub mod Layout
pub mod Lends
pub mod Runs
pub mod Laws
