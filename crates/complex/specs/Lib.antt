pub mod Complex
pub mod Planes
pub mod Lends
