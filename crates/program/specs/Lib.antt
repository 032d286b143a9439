pub mod Answer
pub mod Laws
pub mod Program
pub mod StepLaws
pub mod Whole
