-- The sample of an isotherm at a density, and what is sought.
pub mod Sampling
pub mod Sought
