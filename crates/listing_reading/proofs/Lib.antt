pub mod Begins
pub mod Says
pub mod Unbroken
pub mod Whole
