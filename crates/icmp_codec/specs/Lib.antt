pub mod Limits
pub mod EchoRequest
pub mod EchoReply
pub mod Answered
pub mod TooLong
pub mod Unreachable
