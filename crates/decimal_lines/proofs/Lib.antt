-- Laws that the proofs of this crate share.
pub mod Digits
pub mod Counts
pub mod Lengths
