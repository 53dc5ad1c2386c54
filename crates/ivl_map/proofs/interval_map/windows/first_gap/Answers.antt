use Rattle.std.proofs.Common.{◌≡◌, ℕ, ◌+◌, suc, ◌≤◌, ◌<◌, ℤ, get_or, subst, sym, arith}
use Rattle.ivl_laws.specs.Sets.{Above, Below, HasSome, IsBetween, SameMembers}
use Rattle.ivl_laws.proofs.Intervals.{some_is_not_crossed}
use Rattle.ivl_places.proofs.FirstFit.{at_least_by_count, below_by_count}
use Rattle.ivl_map.proofs.Lists.{open_at}
use Rattle.ivl_map.proofs.Gaps.{IsLeft, fits_in_gap, fits_in_rest, fits_nowhere, left_first, left_next}
use Rattle.ivl_map.proofs.interval_map.windows.first_gap.Goals as goal

pub lower-requires : goal.lower-requires
lower-requires g c =
    let E = c.args.entries.now in
    let k = c.loop-entry.entry-index in
    let d = c.entry-item.result in
    let P : (ℤ × ℤ) × g.row.V.Denot → Type 0 = λ e. HasSome (IsBetween e.0) in
    subst P (sym c.entry-item.is) ((some_is_not_crossed (get_or E k d).0).1 (open_at g.V.PartialEq.eq E k d c.requires.entries c.loop-entry-test.true))

pub upper-requires : goal.upper-requires
upper-requires g c =
    let E = c.args.entries.now in
    let k = c.loop-entry.entry-index in
    let d = c.entry-item.result in
    let P : (ℤ × ℤ) × g.row.V.Denot → Type 0 = λ e. HasSome (IsBetween e.0) in
    subst P (sym c.entry-item.is) ((some_is_not_crossed (get_or E k d).0).1 (open_at g.V.PartialEq.eq E k d c.requires.entries c.loop-entry-test.true))

pub lowest_of-requires-clause-enough : goal.lowest_of-requires-clause-enough
lowest_of-requires-clause-enough g c =
    subst (λ (k : ℕ). g.B.Output.SizeNumber.size c.args.count ≤ k) c.size.ensures.width (at_least_by_count g.met.B.Output.SizeNumber.ordered _ _ _ c.ge.ensures c.if-ge.true)

pub lowest_of-requires-then-ge-2-clause-enough : goal.lowest_of-requires-then-ge-2-clause-enough
lowest_of-requires-then-ge-2-clause-enough g c =
    subst (λ (k : ℕ). g.B.Output.SizeNumber.size c.args.count ≤ k) c.size-2.ensures.width (at_least_by_count g.met.B.Output.SizeNumber.ordered _ _ _ c.ge-2.ensures c.if-ge-2.true)

pub loop-entry-init : goal.loop-entry-init
loop-entry-init g c = left_first g.V.PartialEq.eq g.met.V.Eq.laws (g.B.Output.SizeNumber.size c.args.count) c.args.entries.now c.args.window c.requires.above_zero c.requires.entries

pub returns-then-ge : goal.returns-then-ge
returns-then-ge g c =
    let eq = g.V.PartialEq.eq in
    let n = g.B.Output.SizeNumber.size c.args.count in
    let E = c.args.entries.now in
    let k = c.loop-entry.entry-index in
    let d = c.entry-item.result in
    let r = c.loop-entry.rest in
    let gap = c.strict_shrink_right-gap.result in
    let P : ℤ → Type 0 = λ u. SameMembers (IsBetween gap) (Below u (IsBetween r)) in
    let Q : (ℤ × ℤ) × g.row.V.Denot → Type 0 = λ e. SameMembers (IsBetween gap) (Below e.0.0 (IsBetween r)) in
    let same = subst Q c.entry-item.is (subst P c.lower.ensures.value c.strict_shrink_right-gap.ensures) in
    let wide = subst (λ (w : ℕ). n ≤ w) c.size.ensures.width (at_least_by_count g.met.B.Output.SizeNumber.ordered _ _ _ c.ge.ensures c.if-ge.true) in
    fits_in_gap eq g.met.V.Eq.laws n E c.args.window c.requires.above_zero c.requires.entries r k c.loop-entry.invariant d c.loop-entry-test.true gap same c.lowest_of.result wide c.lowest_of.ensures

pub loop-entry-preserved : goal.loop-entry-preserved
loop-entry-preserved g c =
    let eq = g.V.PartialEq.eq in
    let n = g.B.Output.SizeNumber.size c.args.count in
    let E = c.args.entries.now in
    let k = c.loop-entry.entry-index in
    let d = c.entry-item.result in
    let r = c.loop-entry.rest in
    let gap = c.strict_shrink_right-gap.result in
    let next = c.strict_shrink_left-rest.result in
    let P : ℤ → Type 0 = λ u. SameMembers (IsBetween gap) (Below u (IsBetween r)) in
    let Q : (ℤ × ℤ) × g.row.V.Denot → Type 0 = λ e. SameMembers (IsBetween gap) (Below e.0.0 (IsBetween r)) in
    let same = subst Q c.entry-item.is (subst P c.lower.ensures.value c.strict_shrink_right-gap.ensures) in
    let R : ℤ → Type 0 = λ u. SameMembers (IsBetween next) (Above u (IsBetween r)) in
    let T : (ℤ × ℤ) × g.row.V.Denot → Type 0 = λ e. SameMembers (IsBetween next) (Above e.0.1 (IsBetween r)) in
    let up = subst T c.entry-item.is (subst R c.upper.ensures.value c.strict_shrink_left-rest.ensures) in
    let short = subst (λ (w : ℕ). w < n) c.size.ensures.width (below_by_count g.met.B.Output.SizeNumber.ordered _ _ _ c.ge.ensures c.if-ge.false) in
    let more : suc k ≡ k + 1 = omega arith in
    subst (λ (j : ℕ). IsLeft eq n E c.args.window next j) more
    (left_next eq g.met.V.Eq.laws n E c.args.window c.requires.above_zero c.requires.entries r k c.loop-entry.invariant d c.loop-entry-test.true gap same next short up)

pub returns-then-ge-2 : goal.returns-then-ge-2
returns-then-ge-2 g c =
    let n = g.B.Output.SizeNumber.size c.args.count in
    let wide = subst (λ (w : ℕ). n ≤ w) c.size-2.ensures.width (at_least_by_count g.met.B.Output.SizeNumber.ordered _ _ _ c.ge-2.ensures c.if-ge-2.true) in
    let end = c.loop-entry-test.false in
    fits_in_rest g.V.PartialEq.eq g.met.V.Eq.laws n c.args.entries.now c.args.window c.requires.above_zero c.requires.entries c.loop-entry.rest c.loop-entry.entry-index c.loop-entry.invariant c.lowest_of-then-ge-2.result
    (omega (arith, end)) wide c.lowest_of-then-ge-2.ensures

pub returns-else-ge-2 : goal.returns-else-ge-2
returns-else-ge-2 g c =
    let n = g.B.Output.SizeNumber.size c.args.count in
    let short = subst (λ (w : ℕ). w < n) c.size-2.ensures.width (below_by_count g.met.B.Output.SizeNumber.ordered _ _ _ c.ge-2.ensures c.if-ge-2.false) in
    fits_nowhere g.V.PartialEq.eq g.met.V.Eq.laws n c.args.entries.now c.args.window c.requires.above_zero c.requires.entries c.loop-entry.rest c.loop-entry.entry-index c.loop-entry.invariant short
