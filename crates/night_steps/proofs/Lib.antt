pub mod Ahead
pub mod Held
pub mod Plan
pub mod Told
