pub mod Numbers
pub mod Watch
