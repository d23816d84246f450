-- Laws of this crate that the crates above cite.
pub mod Laws
