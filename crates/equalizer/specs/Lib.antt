pub mod Equalizer
pub mod Lends
pub mod Laws
