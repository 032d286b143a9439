pub mod Decimator
pub mod Demand
pub mod Quantiser
pub mod Cases
pub mod FiniteSums
pub mod Past
