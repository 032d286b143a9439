pub mod Samples
pub mod Laws
pub mod Inside
