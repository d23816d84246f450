-- The grid of densities, and the grid in an array.
pub mod Grid
pub mod GridArray
