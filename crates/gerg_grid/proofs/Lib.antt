-- Lists of densities that rise, and the grid as one.
pub mod Laws
