pub mod Limits
pub mod Form
pub mod Header
pub mod CaptureFile
pub mod Outcome
pub mod SoFar
