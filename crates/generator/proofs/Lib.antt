-- What the layers above use of the generator.
pub mod Laws
