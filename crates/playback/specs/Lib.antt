pub mod Answers
pub mod Calls
pub mod Left
pub mod Registry
pub mod Buffers
