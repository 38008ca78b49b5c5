pub mod Bytes
pub mod Answers
pub mod Exactly
pub mod Kept
pub mod Back
pub mod Settled
pub mod Worked
