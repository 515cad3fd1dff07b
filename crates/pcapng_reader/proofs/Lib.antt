pub mod Numbers
pub mod Walk
pub mod Frames
pub mod Joining
pub mod Kept
pub mod Outcomes
pub mod Steps
pub mod Inputs
