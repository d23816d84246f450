-- Fugacity coefficients.
pub mod Fugacity
