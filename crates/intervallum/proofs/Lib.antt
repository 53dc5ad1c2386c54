pub mod Equality
pub mod Text
pub mod Options
