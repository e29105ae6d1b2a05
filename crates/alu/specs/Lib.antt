pub mod Results
pub mod Laws
pub mod Examples
