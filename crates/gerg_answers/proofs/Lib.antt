-- Laws of the codes and of what is written.
pub mod Laws
