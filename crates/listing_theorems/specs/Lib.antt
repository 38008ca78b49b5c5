pub mod Published
pub mod Texts
