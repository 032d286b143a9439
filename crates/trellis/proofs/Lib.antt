pub mod CostsLaws
pub mod Bound
