pub mod Limits
pub mod ReceiveQueue
pub mod SendQueue
pub mod Runs
pub mod Inside
pub mod WholeStreams
