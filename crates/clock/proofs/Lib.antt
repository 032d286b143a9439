pub mod Laws
pub mod Ranged
