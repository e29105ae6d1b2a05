pub mod Flows
pub mod Sheets
pub mod Judge
pub mod Vetting
pub mod Unique
