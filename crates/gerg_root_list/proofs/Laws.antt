-- The answer
pub mod Answering
-- the loop over a scan's roots, what holds of the refusals, how many are kept, and the value of an answer
pub mod Keeping
pub mod KeptRefusals
pub mod KeptFew
pub mod Told
pub mod Envelope
pub mod FirstFive
-- lists of densities that rise
pub mod RootList
pub mod KeptRises
-- what an accepted answer has written, and in which two pieces
pub mod RootPasted
pub mod Written
