-- The ways of the code through the definitions (Sampling, Saturation), the ends that are sampled (Ends), the rows of a temperature's refusal (Rows), what an answer reports (Reported).
pub mod Sampling
pub mod Saturation
pub mod Ends
pub mod Rows
pub mod Reported
