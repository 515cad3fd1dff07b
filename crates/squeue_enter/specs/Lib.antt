pub mod Ways
pub mod Entering
