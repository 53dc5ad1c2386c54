pub mod Places
pub mod Edits
pub mod Neighbours
pub mod FirstFit
pub mod Members
pub mod Windows
pub mod Fits
pub mod Many
