pub mod Peak
pub mod Columns
pub mod Lends
