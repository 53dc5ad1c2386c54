use Rattle.std.specs.Fmt.{digits}
use Rattle.ivl_interval_pins.proofs.intervals.text.text_of_whole_of_i8.Goals as goal

pub returns : goal.returns
unfolding digits
returns c = rw c.whole_of_i8-whole.ensures at c.format.ensures.ok
