-- Lists of densities that rise, and the grid as one.
pub mod GridFew
pub mod Front
pub mod Rising
pub mod Insertion
pub mod GridRises
pub mod Held
