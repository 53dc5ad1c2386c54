pub mod Answered
pub mod Shown
pub mod Pairs
pub mod Unkept
