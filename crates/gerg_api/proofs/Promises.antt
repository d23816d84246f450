-- The demands' sentences, said of the public calls: each from the coefficient file's bytes, the component list, the fractions and the rest; of `properties`, `fugacity` and `density` in any range.
-- 1. "Every bad input is refused under a number of its own, with a fixed value"
pub mod Refusals
-- 1. "and a refusal writes to none of the lent memory"; 2. what an accepted call writes
pub mod Memory
-- 3. "A density search makes at most 600 interior trials whatever it is given; its counts, 'collapsed' and 'limit reached' mean exactly what document 01 says. Saturation makes at most 60. Root lists rise strictly."
pub mod Searches
-- Request 03: what the extended range shares with the normal one
pub mod Ranges
-- Request 05: a list that is accepted passes rows 3 and 4 of every call
pub mod Lists
