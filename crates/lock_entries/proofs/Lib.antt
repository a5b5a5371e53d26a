pub mod Laws
pub mod Parts
pub mod Lists
pub mod Limits
pub mod Cases
