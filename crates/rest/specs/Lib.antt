pub mod Rest
pub mod Answers
pub mod Ahead
