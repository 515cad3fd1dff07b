pub mod Rounds
pub mod Sums
pub mod Looked
pub mod Brought
