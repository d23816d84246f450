-- Laws that the crate above shares.
pub mod Laws
