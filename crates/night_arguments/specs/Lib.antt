pub mod Arguments
pub mod Options
