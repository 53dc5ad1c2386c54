pub mod Depths
pub mod Small
