pub mod OptionLemmas
pub mod Joins
pub mod PlaceLemmas
pub mod SumLemmas
pub mod SentIsReadLemmas
