pub mod Digits
pub mod Rising
