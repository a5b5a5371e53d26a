pub mod Laws
pub mod Claims
pub mod Steps
