pub mod Places
pub mod Laws
pub mod Given
pub mod Settled
pub mod Exactly
pub mod Matched
pub mod Again
pub mod Worked
