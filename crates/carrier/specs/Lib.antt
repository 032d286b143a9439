pub mod Carrier
pub mod Ranges
pub mod Laws
pub mod AdmittedLaws
