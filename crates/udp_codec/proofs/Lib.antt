pub mod SumLemmas
pub mod ReadAgainLemmas
