pub mod BankSteps
pub mod Called
pub mod Statements
pub mod Totals
