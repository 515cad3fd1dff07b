pub mod Halves
pub mod NextFeeds
pub mod OwnMarks
pub mod ThreeLogs
