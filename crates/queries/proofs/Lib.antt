pub mod Laws
pub mod Past
