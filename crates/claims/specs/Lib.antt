pub mod Moments
pub mod Interrupts
pub mod Calls
pub mod Claims
pub mod Led
