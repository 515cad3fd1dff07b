pub mod Distinct
mod PacketPlaces
pub mod Conns
mod HintLemmas
pub mod ItemLemmas
pub mod OneKey
pub mod SortLemmas
mod Tallies
pub mod PlanFacts
pub mod TextWithin
mod OrderLaw
pub mod PlanLaw
pub mod Joining
pub mod Kept
mod SlotLemmas
pub mod RingLaw
mod ItemsTogether
