-- The nine derivatives, what a term adds to them, and the powers that the terms at one density share.
pub mod Derivatives
pub mod Parts
pub mod Powers
