pub mod Oscillator
pub mod Laws
