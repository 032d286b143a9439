pub mod Narrowing
pub mod Faithful
pub mod NearestLaws
