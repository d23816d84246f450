-- The saturation temperature of a pure fluid: the sample at a temperature, the answer; the code's struct.
pub mod Sampling
pub mod Saturation
pub mod Isobars
