pub mod Whole
pub mod Fractions
