pub mod SummaryText
pub mod Countable
pub mod Written
