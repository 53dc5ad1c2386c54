use Rattle.std.proofs.Common.{◌≡◌, None, Some, refl, lit<, rules, arith, w64, to_z, of_z}
use Rattle.std.proofs.lemmas.Bool.{false≢true}
use Rattle.std.proofs.lemmas.Int.{ints, to_z-of_z}
use Rattle.std.proofs.lemmas.Str.Pattern.{strip_prefix_char}
use Rattle.ivl_ranges.specs.Ranges.{IsRange}
use Rattle.ivl_ranges.proofs.Dots.{cut, no_lower, no_second_dot, no_upper, parts, range_is, same_ends, uncut}
use Rattle.ivl_ranges.proofs.reading.range_from.Goals as goal
use Rattle.ivl_ranges.proofs.reading.range_from.Goals.{else-lower-upper-via-then-lower-upper+else-in_range, else-lower-upper-via-else-lower-upper}

pub returns-in_err-lower-clause-none : goal.returns-in_err-lower-clause-none
returns-in_err-lower-clause-none c =
    rw c.from_residual.ensures (uncut c.args.word.now c.split_once.result c.split_once.ensures.cases c.in_err-lower.was)

pub returns-in_err-upper-clause-none : goal.returns-in_err-upper-clause-none
returns-in_err-upper-clause-none c =
    let none = strip_prefix_char 46 c.in_ok-lower.rest.now None c.in_err-upper.ensures.cases (lit< tt) in
    rw c.from_residual-in_err-upper.ensures (no_second_dot _ _ _ (cut c.args.word.now c.split_once.result _ c.split_once.ensures.cases c.in_ok-lower.was) none)

pub returns-in_err-lower-2-clause-none : goal.returns-in_err-lower-2-clause-none
returns-in_err-lower-2-clause-none c =
    rw c.from_residual-in_err-lower-2.ensures (no_lower _ _ _ (cut c.args.word.now c.split_once.result _ c.split_once.ensures.cases c.in_ok-lower.was) c.in_err-lower-2.ensures)

pub returns-in_err-upper-2-clause-none : goal.returns-in_err-upper-2-clause-none
returns-in_err-upper-2-clause-none c =
    let dot = strip_prefix_char 46 c.in_ok-lower.rest.now (Some c.in_ok-upper.upper) c.in_ok-upper.ensures.cases (lit< tt) in
    rw c.from_residual-in_err-upper-2.ensures (no_upper _ _ _ _ (cut c.args.word.now c.split_once.result _ c.split_once.ensures.cases c.in_ok-lower.was) dot c.in_err-upper-2.ensures)

pub returns-then-in_range-clause-some : goal.returns-then-in_range-clause-some
returns-then-in_range-clause-some c =
    let dot = strip_prefix_char 46 c.in_ok-lower.rest.now (Some c.in_ok-upper.upper) c.in_ok-upper.ensures.cases (lit< tt) in
    let l : to_z w64 (of_z w64 c.in_ok-lower-2.lower) ≡ c.in_ok-lower-2.lower = to_z-of_z w64 c.in_ok-lower-2.lower (search rules) in
    let u : to_z w64 (of_z w64 c.in_ok-upper-2.upper) ≡ c.in_ok-upper-2.upper = to_z-of_z w64 c.in_ok-upper-2.upper (search rules) in
    let range : IsRange c.args.word.now (c.in_ok-lower-2.lower, c.in_ok-upper-2.upper) =
    range_is _ _ _ _ (c.in_ok-lower-2.lower, c.in_ok-upper-2.upper) (parts c.args.word.now c.split_once.result _ c.split_once.ensures.cases c.in_ok-lower.was) dot c.in_ok-lower-2.ensures c.in_ok-upper-2.ensures (omega (arith, ints)) (rw (l, u) at (c.if-in_range.ensures.0 refl)) in
    rw (l, u) range

pub returns-else-lower-upper-clause-none : goal.returns-else-lower-upper-clause-none
returns-else-lower-upper-clause-none c =
    let dot = strip_prefix_char 46 c.in_ok-lower.rest.now (Some c.in_ok-upper.upper) c.in_ok-upper.ensures.cases (lit< tt) in
    let l : to_z w64 (of_z w64 c.in_ok-lower-2.lower) ≡ c.in_ok-lower-2.lower = to_z-of_z w64 c.in_ok-lower-2.lower (search rules) in
    let u : to_z w64 (of_z w64 c.in_ok-upper-2.upper) ≡ c.in_ok-upper-2.upper = to_z-of_z w64 c.in_ok-upper-2.upper (search rules) in
    λ p range.
    let ends = same_ends _ _ _ _ c.in_ok-lower-2.lower c.in_ok-upper-2.upper (cut c.args.word.now c.split_once.result _ c.split_once.ensures.cases c.in_ok-lower.was) dot c.in_ok-lower-2.ensures c.in_ok-upper-2.ensures p range in
    elim c.else-lower-upper.branch [
      | else-lower-upper-via-then-lower-upper+else-in_range w ↦ false≢true (w.if-in_range.ensures.1 (rw (l, u, ends.0, ends.1) range.in_range))
      | else-lower-upper-via-else-lower-upper w ↦ omega (arith, ints, w.if-lower-upper.false, range.in_order, ends.0, ends.1)
    ]
