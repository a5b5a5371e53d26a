pub mod Pieces
pub mod Barred
pub mod Renewed
pub mod Visit
