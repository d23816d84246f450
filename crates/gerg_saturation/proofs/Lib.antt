-- Laws that the layer above shares.
pub mod Laws
