pub mod Lanes
pub mod LeastSquares
pub mod Layout
pub mod Laws
