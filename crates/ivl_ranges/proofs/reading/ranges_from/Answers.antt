use Rattle.std.proofs.Common.{rules}
use Rattle.ivl_ranges.proofs.Words.{no_range_at, one_more}
use Rattle.ivl_ranges.proofs.reading.ranges_from.Goals as goal

pub returns-in_default-range_from-clause-none : goal.returns-in_default-range_from-clause-none
returns-in_default-range_from-clause-none c =
    no_range_at _ _ _ _ _ c.words.invariant.1.1 c.in-Some.ensures.some c.in_default-range_from.ensures.none

pub words-preserved : goal.words-preserved
words-preserved c =
    let read = c.words.invariant.1 in (
      search rules,
      one_more _ _ _ _ _ _ _ read.0 read.1 read.2 c.in-Some.ensures.some c.in-Some-range_from.ensures.some c.in_ok-push.ensures.items,
    )
