pub mod Pages
pub mod Operations
pub mod Parts
pub mod Walks
pub mod InPlace
pub mod Longests
pub mod Gaps
pub mod Sizes
