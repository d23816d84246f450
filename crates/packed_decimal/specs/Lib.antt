-- Request 05: records of packed decimal.
pub mod Record
pub mod Records
