-- Request 05: lists of a chromatograph.
pub mod Lists
pub mod Promised
