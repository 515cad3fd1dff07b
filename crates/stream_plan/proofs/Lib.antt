mod Arrivals
mod ItemFacts
pub mod PlanFacts
mod SortSteps
mod StreamFacts
mod StreamSteps
mod Together
mod TupleSteps
mod UdpText
