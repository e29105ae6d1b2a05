pub mod Shifts
pub mod Exact
pub mod Examples
