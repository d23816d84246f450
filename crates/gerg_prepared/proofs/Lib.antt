-- Laws of a prepared model.
pub mod Laws
pub mod Numbers
