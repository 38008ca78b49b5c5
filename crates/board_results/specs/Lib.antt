pub mod Results
pub mod Returned
