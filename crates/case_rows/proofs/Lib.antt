pub mod Lines
pub mod Fields
pub mod Outputs
pub mod WordLemmas
pub mod FileLemmas
pub mod SpellingLemmas
pub mod RunLemmas
