pub mod ColumnLaws
pub mod Laws
pub mod Sizes
