pub mod Kleene
pub mod Text
pub mod IntegerLaws
pub mod SameInterval
pub mod Characters
