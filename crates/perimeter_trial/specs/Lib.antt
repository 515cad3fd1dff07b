pub mod Logging
pub mod LogLaws
pub mod Worked
