-- Laws of sqrt that belong to no one function.
pub mod Root
pub mod SqrtLaws
