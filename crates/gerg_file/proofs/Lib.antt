-- Laws that the proofs of this crate share, and those that other crates cite.
pub mod Heads
pub mod Chain
pub mod Filed
pub mod Prefix
pub mod Sections
pub mod Begins
pub mod WellFormed
pub mod Reach
pub mod Places
pub mod Laws
