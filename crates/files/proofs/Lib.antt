pub mod Numbers
pub mod Collecting
pub mod Written
pub mod BytePairs
pub mod Comments
