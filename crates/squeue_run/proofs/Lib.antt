pub mod Answered
pub mod InRange
pub mod Threads
pub mod Named
pub mod Missing
mod Records
pub mod Runs
pub mod Reports
pub mod Complete
mod GeneratorSteps
mod GeneratorNumbers
mod GeneratorReady
mod WorkedGenerator
mod GeneratedSize
mod GeneratedAccepted
mod GeneratedRead
mod Outputs
