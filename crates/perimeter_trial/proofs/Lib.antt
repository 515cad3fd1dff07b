pub mod LogSteps
