pub mod AsTheRust
pub mod Window
