-- The generator, its draws and its states.
pub mod Generator
