-- What the derivatives take from the temperature alone.
pub mod Isotherm
pub mod Parts
pub mod Rows
