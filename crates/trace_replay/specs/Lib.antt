pub mod Lines
pub mod Replays
pub mod Reasons
pub mod Texts
pub mod Answers
pub mod Judged
pub mod Joining
pub mod Going
