-- Laws that the proofs of this crate share, and what holds of an input that is cut.
pub mod Lines
pub mod Input
pub mod Cut
pub mod Lengths
