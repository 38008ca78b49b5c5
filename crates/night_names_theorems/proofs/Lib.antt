pub mod Parts
pub mod Back
pub mod Area
