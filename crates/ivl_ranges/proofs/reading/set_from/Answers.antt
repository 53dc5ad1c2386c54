use Rattle.std.proofs.Common.{ℤ, List, subst}
use Rattle.ivl_lines.specs.Words.{words_between}
use Rattle.ivl_laws.specs.Runs.{Covers, IsRunsOf}
use Rattle.ivl_ranges.specs.Ranges.{AreRanges}
use Rattle.ivl_ranges.proofs.Words.{has_word, in_range_at, same_pairs}
use Rattle.ivl_ranges.proofs.reading.set_from.Goals as goal

pub to_interval_set-requires : goal.to_interval_set-requires
to_interval_set-requires c =
    let each : AreRanges (words_between c.args.words.now) c.in-Some.ranges.items = rw c.in-Some.is at c.in_ok-ranges.ensures.some in
    in_range_at (words_between c.args.words.now) c.in-Some.ranges.items each

pub returns-in_ok-to_interval_set-in-Some-clause-ok : goal.returns-in_ok-to_interval_set-in-Some-clause-ok
returns-in_ok-to_interval_set-in-Some-clause-ok c =
    let P : List (ℤ × ℤ) → Type 0 = λ ranges. IsRunsOf c.in_ok-to_interval_set-in-Some.field-0 (Covers ranges) in
    let each : AreRanges (words_between c.args.words.now) c.in-Some.ranges.items = rw c.in-Some.is at c.in_ok-ranges.ensures.some in (
      has_word c.args.words.now c.next_word.result c.if-is_none.ensures c.next_word.ensures.some,
      (c.in-Some.ranges.items, each, subst P (same_pairs c.in-Some.ranges.items) c.in_ok-to_interval_set-in-Some.ensures),
    )
