pub mod Pairs
pub mod Returns
pub mod Spaces
pub mod Answered
pub mod Cuts
pub mod Splits
pub mod SetTexts
pub mod Sessions
