pub mod Shares
pub mod Grouped
