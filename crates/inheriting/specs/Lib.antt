pub mod Inheriting
pub mod Laws
pub mod Foretold
