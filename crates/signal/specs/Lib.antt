pub mod Signal
pub mod Plain
pub mod Powers
pub mod Rows
pub mod Lends
pub mod InPlace
