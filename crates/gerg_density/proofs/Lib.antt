-- Laws of the density search that speak of no code, and the promises.
pub mod Laws
pub mod Promises
