pub mod Short
pub mod Worked
