pub mod Meaning
pub mod Empty
pub mod Layers
pub mod Seen
