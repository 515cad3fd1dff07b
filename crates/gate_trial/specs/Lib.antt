pub mod Diary
pub mod Jobs
pub mod Counted
