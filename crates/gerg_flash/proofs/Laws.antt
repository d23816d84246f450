-- By what rows and numbers a search refuses, how many roots it keeps, and the value of its answer
pub mod SearchedRows
pub mod Numbers
pub mod Few
pub mod Values
-- the roots that it keeps rise
pub mod RootsRise
-- what an accepted call tells
pub mod Accepted
