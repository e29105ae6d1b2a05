pub mod Sheets
pub mod SheetWords
pub mod Programs
pub mod Verdicts
pub mod Parts
pub mod Judging
