pub mod Joins
pub mod LineParts
pub mod Lines
mod Runs
mod OrderTexts
mod EntryLemmas
pub mod Blocks
mod Worked
mod WorkedTrace
