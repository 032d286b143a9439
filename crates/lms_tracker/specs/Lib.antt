pub mod Tracker
pub mod Layout
pub mod Laws
