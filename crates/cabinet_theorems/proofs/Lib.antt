pub mod Stops
pub mod Exactly
pub mod Left
pub mod Log
pub mod Settled
