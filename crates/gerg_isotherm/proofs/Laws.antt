-- What the cells hold, and that the isotherm holds all that the sums read.
pub mod Rows
pub mod Written
pub mod Kept
pub mod Ideal
pub mod Reads
pub mod Lent
