pub mod Lines
pub mod Cells
