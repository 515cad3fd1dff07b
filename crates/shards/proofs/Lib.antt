pub mod Mixed
pub mod MergedMore
