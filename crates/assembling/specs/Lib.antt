pub mod Assembling
pub mod Checks
