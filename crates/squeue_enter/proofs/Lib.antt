pub mod Carrying
pub mod Entries
pub mod Choosing
pub mod Answering
pub mod Bringing
pub mod ByWay
