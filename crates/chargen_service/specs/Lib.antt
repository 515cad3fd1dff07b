pub mod Chargen
pub mod WholeStream
