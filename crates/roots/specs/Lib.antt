pub mod Radicands
