pub mod Places
pub mod Bringing
pub mod Starting
pub mod Ending
