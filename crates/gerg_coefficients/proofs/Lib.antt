-- Laws that the proofs of this crate share.
pub mod Padded
pub mod Put
pub mod Rows
pub mod Steps
pub mod Whole
pub mod Cases
pub mod Lookup
pub mod Numbers
pub mod Finite
pub mod Shaped
pub mod Examples
pub mod OfFile
pub mod Standing
pub mod Bounds
pub mod Cut
