pub mod Staying
pub mod Places
pub mod Settling
pub mod Beginning
