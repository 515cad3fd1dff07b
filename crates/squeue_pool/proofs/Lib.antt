pub mod Back
pub mod IntakesOf
pub mod Made
pub mod Ready
pub mod Whole
pub mod Suffices
pub mod KeyLists
pub mod ByKey
pub mod Placed
pub mod Rows
mod Taking
mod AllPlaced
pub mod Called
pub mod Sums
pub mod CallQuotas
pub mod Named
pub mod CallsSuit
pub mod AllHad
pub mod ActSums
