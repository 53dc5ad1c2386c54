pub mod EqualRuns
pub mod Sweeping
pub mod Halves
pub mod Images
pub mod Fitting
pub mod Scaling
pub mod Shifting
pub mod Offsets
