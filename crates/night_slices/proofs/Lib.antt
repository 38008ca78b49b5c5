pub mod Keeping
pub mod Going
pub mod Sliced
pub mod Shown
