-- Laws of a scan that the layers above share.
pub mod Laws
