pub mod Delivery
pub mod Rows
pub mod Lends
pub mod Ranges
pub mod Laws
