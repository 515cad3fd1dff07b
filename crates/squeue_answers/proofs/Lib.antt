pub mod Ways
pub mod Lists
pub mod GivenOn
pub mod Parted
pub mod ByKey
pub mod Finishing
pub mod Became
pub mod AllServed
