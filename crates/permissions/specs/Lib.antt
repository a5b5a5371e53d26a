pub mod Flags
pub mod Defaults
pub mod Rmpadjust
pub mod HvError
