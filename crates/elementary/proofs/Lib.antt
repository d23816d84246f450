-- Laws of this crate that belong to no one function.
-- ---- for the functions' proofs
pub mod SignedIntegers
pub mod PowerSteps
-- ---- for the crates above
pub mod Laws
