pub mod AnswerRow
pub mod Lends
pub mod Laws
