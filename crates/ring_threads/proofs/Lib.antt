pub mod WholeRun
mod FewFeeds
mod Each
mod Suiting
mod Lying
mod Listing
mod Totals
mod Sufficing
pub mod AllActs
pub mod Ends
