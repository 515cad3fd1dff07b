pub mod Starting
pub mod Ordered
