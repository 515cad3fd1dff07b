pub mod Moving
pub mod Worked
