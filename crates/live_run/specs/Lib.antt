pub mod PortWords
pub mod MarkingWords
pub mod Words
pub mod Rounds
pub mod Faults
pub mod Fronts
