pub mod History
pub mod Rule
pub mod Gates
pub mod Passes
pub mod Helds
pub mod Seats
