-- Lines of two decimal numbers.
pub mod Line
