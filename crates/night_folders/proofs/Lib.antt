pub mod Every
pub mod Law
pub mod Ends
pub mod Commit
pub mod Holes
pub mod Beside
