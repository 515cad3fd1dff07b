pub mod Moving
pub mod Adding
pub mod EachQuota
