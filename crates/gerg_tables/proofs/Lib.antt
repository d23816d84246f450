-- Laws of the check, and what it leaves.
pub mod Finite
pub mod Some
pub mod Faults
pub mod Departure
