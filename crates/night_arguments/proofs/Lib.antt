mod Laws
pub mod Decimal
mod Calls
pub mod Worked
