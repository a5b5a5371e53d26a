pub mod Whole
pub mod Calls
pub mod Table
pub mod Pages
pub mod Claims
