pub mod ExamplesSets
pub mod ExamplesArithmetic
pub mod ExamplesRuns
pub mod ExamplesCounts
pub mod ExamplesFamilies
