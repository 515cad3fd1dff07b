pub mod Marks
pub mod Histories
pub mod Standing
pub mod Replaying
pub mod Parts
pub mod Steps
pub mod Entering
pub mod Pacing
