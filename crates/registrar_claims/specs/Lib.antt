pub mod Runs
pub mod Changes
pub mod Whole
pub mod Ends
pub mod Entries
pub mod Claims
