-- Laws of records of packed decimal.
pub mod Laws
