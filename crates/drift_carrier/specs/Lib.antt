pub mod Carrier
pub mod Ranges
pub mod Lends
pub mod Laws
