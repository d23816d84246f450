-- The coefficient file: its records, the numbers in it, which files row 1 accepts, and what a well-formed one has.
pub mod Kinds
pub mod Bytes
pub mod File
pub mod Counts
pub mod Laid
