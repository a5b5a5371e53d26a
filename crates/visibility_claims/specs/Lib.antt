pub mod Whole
pub mod Requested
pub mod Runs
pub mod Calls
pub mod Refusals
pub mod Ends
pub mod Marks
pub mod Table
