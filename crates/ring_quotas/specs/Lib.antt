pub mod Limits
pub mod Quotas
pub mod Fits
