pub mod Owning
pub mod Draining
pub mod Working
pub mod Rounds
