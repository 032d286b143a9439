pub mod Bounds
pub mod Laws
pub mod Loops
pub mod Quotients
pub mod RowLaws
pub mod Spans
pub mod Windows
