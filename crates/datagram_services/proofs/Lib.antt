pub mod OneMore
pub mod Placing
mod Counting
mod Joins
mod LineParts
mod Lying
mod MoreComplete
mod MoreRuns
mod Ran
mod StreamTexts
mod Suits
mod Written
pub mod InRange
