-- What the proofs of the code and of the crate above share: one record, the fraction of parts, a total, the walk over the records.
pub mod Record
pub mod Fraction
pub mod Total
pub mod Walk
