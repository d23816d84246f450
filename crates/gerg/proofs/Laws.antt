-- What an answer says of the tests that were passed, its numbers, the cases of document 01, and what two ranges share.
pub mod Admitted
pub mod Answered
pub mod Numbers
pub mod NoValue
pub mod Within
pub mod Cases
pub mod Inside
pub mod Ranges
