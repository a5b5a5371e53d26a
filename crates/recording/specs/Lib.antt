pub mod Decode
pub mod Digest
pub mod Kinds
pub mod Lists
