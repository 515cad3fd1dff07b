mod TextLines
mod Searching
mod Captures
mod Runs
mod Notes
mod StaysAlike
mod NotesIn
mod Full
mod TakesFew
mod Rounds
mod Counted
mod HomeFeeds
mod Walk
mod Endings
mod InStays
mod RightFromFits
mod Leaving
mod FitsFromRight
mod FirstLines
mod ReportLines
mod Words
mod Decode
mod ToldOnce
mod Once
mod Answered
mod Apart
mod Judging
mod EndedStays
mod NamedCalls
mod JoinedStays
mod LastStay
mod Giving
mod WholeOrder
mod AllOrders
mod KeptGuests
mod Taken
pub mod Fitting
pub mod Reaching
pub mod Adding
pub mod Stepping
pub mod AllGone
