pub mod Apart
pub mod Bools
pub mod Conds
pub mod Known
pub mod Lists
pub mod Lent
pub mod Options
pub mod Orders
