pub mod Processors
pub mod Instructions
pub mod Steps
pub mod Laws
pub mod Parts
