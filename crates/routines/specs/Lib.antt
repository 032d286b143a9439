pub mod Circle
pub mod Angle
pub mod Hypotenuse
pub mod Enclosed
pub mod HypotenuseCode
pub mod HypotenuseLaws
pub mod Reached
pub mod Squares
