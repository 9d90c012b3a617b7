pub mod Results
pub mod Computing
