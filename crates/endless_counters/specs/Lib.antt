pub mod Rounds
pub mod Sources
pub mod Counting
pub mod Serving
