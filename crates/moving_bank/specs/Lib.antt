pub mod Booking
pub mod Settling
