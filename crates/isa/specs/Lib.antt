pub mod Words
pub mod Laws
pub mod Assembly
pub mod Images
pub mod Operations
