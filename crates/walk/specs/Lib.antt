pub mod Sets
pub mod Walk
pub mod Frames
pub mod Closures
pub mod Rules
pub mod Result
