pub mod OneRun
pub mod Sums
pub mod Settled
