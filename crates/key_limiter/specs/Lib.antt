pub mod Limiting
pub mod Buckets
