-- Laws for the crates above.
pub mod Laid
pub mod Standing
pub mod Cut
