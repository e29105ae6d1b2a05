pub mod Memory
pub mod Output
pub mod Input
pub mod Buttons
pub mod Desk
