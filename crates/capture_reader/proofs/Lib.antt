pub mod Pieces
pub mod Outcomes
pub mod OneOutcome
pub mod SomeOutcome
pub mod Times
pub mod ShortBodies
pub mod Taken
