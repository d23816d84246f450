-- The derivatives by mole fraction.
pub mod Composition
pub mod Powers
