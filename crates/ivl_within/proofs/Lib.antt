pub mod Clipping
pub mod Fronts
pub mod Lists
pub mod Reaching
pub mod Stretches
pub mod Windows
pub mod Moved
