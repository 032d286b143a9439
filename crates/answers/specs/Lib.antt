pub mod Observed
pub mod Walk
pub mod Laws
