pub mod RequestLemmas
pub mod AnsweredLemmas
pub mod TooLongLemmas
pub mod UnreachableLemmas
