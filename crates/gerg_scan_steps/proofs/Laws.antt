-- The loops of a scan, and what it keeps, whatever the samples are: its refusals, how many roots it finds, and that they rise.
pub mod Answers
pub mod Loops
pub mod ScanFew
pub mod ScanRefusals
pub mod HalvingStays
pub mod ScanRises
