pub mod Stripes
pub mod Channels
pub mod Layout
pub mod Laws
