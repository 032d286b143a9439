pub mod AngleCode
pub mod AngleLaws
pub mod AngleRange
pub mod CircleCode
pub mod CircleLaws
