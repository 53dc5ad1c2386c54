pub mod Elements
pub mod RoundTrips
pub mod Items
pub mod ExamplesReading
pub mod ExamplesItems
pub mod ExamplesWriting
