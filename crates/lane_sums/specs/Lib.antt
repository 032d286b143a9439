pub mod Layout
pub mod LaneLaws
pub mod Laws
