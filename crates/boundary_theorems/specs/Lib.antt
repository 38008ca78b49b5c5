pub mod Trace
pub mod Tallies
