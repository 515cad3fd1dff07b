mod CallLines
mod CallsRead
mod FeedLines
mod Filled
mod HeadLines
mod ItsFeeds
mod MarkLines
mod MarkLists
pub mod MarkOnce
mod Numbers
pub mod OneLine
