pub mod Decode
pub mod DecodeLaws
pub mod Text
pub mod TextLaws
