pub mod Laws
pub mod Lists
pub mod Unlocked
pub mod Fits
