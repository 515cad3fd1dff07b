pub mod LimiterSteps
pub mod Decided
