pub mod Sizes
pub mod Algebra
pub mod Items
pub mod Greatest
