pub mod Accepting
pub mod Acting
pub mod OneAct
pub mod Exiting
pub mod Asking
pub mod Claiming
pub mod Knowing
pub mod NothingDone
