pub mod PortLemmas
pub mod WordLemmas
pub mod ReadLemmas
pub mod FrontLemmas
pub mod PutLemmas
pub mod EachLemmas
pub mod RoundLemmas
