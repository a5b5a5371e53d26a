pub mod Overlays
pub mod Search
