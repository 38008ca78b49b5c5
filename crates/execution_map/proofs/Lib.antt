pub mod Bits
pub mod Laws
pub mod Search
pub mod Settled
pub mod Worked
