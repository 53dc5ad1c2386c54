pub mod Windows
pub mod Dots
pub mod Words
pub mod Printing
