pub mod Synch
pub mod HandingOn
pub mod Hinting
pub mod Seeing
