pub mod ToWhole
