pub mod JobByJob
pub mod AtEach
pub mod Lent
pub mod Coming
pub mod Unused
