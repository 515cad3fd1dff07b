pub mod Protocol
pub mod Pump
pub mod Kept
pub mod Site
