-- Laws of the halvings that speak of no code, and what every saturation search keeps.
pub mod Laws
pub mod Promises
