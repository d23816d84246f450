-- What follows rows 1 to 5, what these rows carry to each call, the normal range, and what two ranges share.
pub mod After
pub mod Carried
pub mod Normal
pub mod Inside
