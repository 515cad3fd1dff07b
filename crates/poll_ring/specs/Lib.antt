pub mod Rings
pub mod Rule
