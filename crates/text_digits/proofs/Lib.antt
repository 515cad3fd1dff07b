pub mod Joins
mod Digits
mod Written
