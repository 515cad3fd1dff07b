pub mod CounterSteps
pub mod Totals
