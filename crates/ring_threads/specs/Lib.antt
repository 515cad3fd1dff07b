pub mod Served
pub mod Lying
pub mod Working
pub mod MadeFor
