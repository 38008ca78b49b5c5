pub mod Shapes
pub mod Operations
