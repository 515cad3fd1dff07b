pub mod OneConnection
pub mod Witness
pub mod OneArrival
pub mod OneCall
pub mod OneClose
pub mod OneKey
pub mod OneLook
pub mod Moved
pub mod Told
pub mod Whole
pub mod ToldTraced
pub mod TracedRun
pub mod DatagramRun
pub mod EchoAnswers
pub mod EchoRun
mod Paces
