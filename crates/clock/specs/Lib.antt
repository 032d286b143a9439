pub mod Clock
pub mod Ranges
pub mod Lends
pub mod AdmittedLaws
pub mod Floor
pub mod Update
