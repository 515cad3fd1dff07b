pub mod Limits
pub mod Numbers
pub mod Options
pub mod Frame
pub mod Blocks
pub mod PcapngFile
pub mod Input
pub mod SoFar
