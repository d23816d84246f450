-- Laws of exp: its constants and its table, the whole part of its reduction, the steps; for the crates above, what it gives at single arguments.
pub mod ExpConstants
pub mod ExpEntries
pub mod ExpTableGood
pub mod ExpRange
pub mod ExpSteps
pub mod ExpTests
pub mod ExpLaws
