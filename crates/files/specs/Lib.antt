pub mod Texts
pub mod Words
pub mod Reading
pub mod Wording
pub mod Formats
pub mod Views
