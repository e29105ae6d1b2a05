pub mod Sets
pub mod Closures
pub mod Levels
pub mod Returns
pub mod Steps
pub mod Walks
