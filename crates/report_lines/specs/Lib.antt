pub mod Names
pub mod ReportText
pub mod TraceText
pub mod OrderLaw
