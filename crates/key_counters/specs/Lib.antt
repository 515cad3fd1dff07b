pub mod Counting
pub mod AsResident
