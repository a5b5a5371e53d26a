pub mod Laws
pub mod Changing
