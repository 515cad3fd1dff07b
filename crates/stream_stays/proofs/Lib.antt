pub mod Knowing
pub mod Rings
pub mod Chained
pub mod Fresh
pub mod Kept
pub mod Looks
pub mod Settled
