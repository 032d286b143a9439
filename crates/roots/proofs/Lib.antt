pub mod Rooting
pub mod Guessed
