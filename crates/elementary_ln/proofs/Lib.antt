-- Laws of ln that belong to no one function.
pub mod LnConstants
pub mod LnTableGood
pub mod LnLaws
