mod SoFar
pub mod Rising
pub mod Numbers
pub mod Settling
pub mod WholeOrders
pub mod Counting
mod Settled
mod Held
mod LettingGo
mod NewBlock
pub mod PlaceSteps
pub mod SettledOrders
pub mod Named
pub mod Conns
