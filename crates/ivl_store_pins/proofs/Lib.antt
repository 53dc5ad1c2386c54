mod ExamplesFamilies
mod ExamplesLaws
mod ExamplesPosts
mod ExamplesRounds
mod ExamplesStore
mod ExamplesRules
mod ExamplesWithin
