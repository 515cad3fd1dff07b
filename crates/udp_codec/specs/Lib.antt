pub mod Limits
pub mod UdpDatagram
pub mod UdpBytes
pub mod ReadAgain
