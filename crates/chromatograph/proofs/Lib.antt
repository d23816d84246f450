-- Laws of records, totals and lists; what is promised of the two calls; cases of the definitions.
pub mod Laws
pub mod Promises
pub mod Cases
