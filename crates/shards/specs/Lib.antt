pub mod Lanes
pub mod Mixing
pub mod Merging
pub mod Numbering
pub mod Sharing
pub mod Writing
