pub mod Words
pub mod Images
