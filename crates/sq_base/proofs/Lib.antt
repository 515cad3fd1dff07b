pub mod EndsLemmas
pub mod SumLemmas
