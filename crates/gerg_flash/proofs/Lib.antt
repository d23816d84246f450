-- Laws of the search that speak of no code, and what every root list keeps.
pub mod Laws
pub mod Promises
