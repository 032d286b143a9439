pub mod Filter
pub mod Fast
pub mod Lends
