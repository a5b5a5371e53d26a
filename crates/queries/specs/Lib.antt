pub mod Queries
pub mod Past
