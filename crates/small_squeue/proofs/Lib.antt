pub mod NewLogs
