pub mod SerialOrder
pub mod InternetSum
pub mod Ends
pub mod MemoryEnds
pub mod StatusCode
pub mod Links
pub mod Ports
