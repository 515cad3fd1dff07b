pub mod Limits
pub mod Streams
pub mod Sound
pub mod Sorting
