pub mod Codes
pub mod Keys
