pub mod Ends
pub mod Exactly
pub mod Left
pub mod Rest
pub mod Settled
pub mod Unwatched
pub mod Watched
