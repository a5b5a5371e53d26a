pub mod Marks
pub mod Six
pub mod Past
