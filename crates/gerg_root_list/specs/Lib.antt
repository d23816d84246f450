-- The root list over what any root gives.
pub mod RootList
pub mod Left
