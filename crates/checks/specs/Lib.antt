pub mod Refusal
pub mod Admitted
pub mod AdmittedTests
pub mod Fits
pub mod Checks
pub mod Ways
