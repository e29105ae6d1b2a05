pub mod Pointers
pub mod ByParts
pub mod Lawful
