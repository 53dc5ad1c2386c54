pub use Rattle.ivl_walks.specs.HeldRun
pub use Rattle.ivl_walks.specs.Order
pub use Rattle.ivl_walks.specs.Sinks
