use Rattle.std.proofs.Common.{⊎_elim, ℤ, List, subst, sym, arith}
use Rattle.std.specs.Prelude.{◌≤ℤ◌, ◌<ℤ◌}
use Rattle.std.proofs.lemmas.Int.{ints}
use Rattle.ivl_laws.specs.Sets.{Below, IsBetween}
use Rattle.ivl_laws.specs.Runs.{Covers, IsMaximal, IsRunsOf}
use Rattle.ivl_laws.proofs.Orders.{le_number, min_number, not_le_number}
use Rattle.ivl_laws.proofs.Ranges.{IsRunListIn-runs}
use Rattle.ivl_paged.specs.Operations.{KeptBy}
use Rattle.ivl_paged.specs.Pages.{flattened}
use Rattle.ivl_paged.proofs.Combining.{kept_within, less_left, nothing_below, piece_there, window_is_above, window_is_last, window_is_next}
use Rattle.ivl_paged.proofs.Heads.{lower_of}
use Rattle.ivl_paged.proofs.combine.combined.Goals as goal

pub put-requires-clause-runs : goal.put-requires-clause-runs
put-requires-clause-runs g c =
    IsRunListIn-runs g.B.Width.whole (flattened c.windows.pages) _ c.windows.invariant.made
    (λ z m. kept_within c.args.op _ _ (IsBetween g.B.Width.whole) c.requires.first.within c.requires.second.within z m.0)

pub put-requires-clause-piece : goal.put-requires-clause-piece
put-requires-clause-piece g c = subst IsMaximal (sym c.deref-in-windows-2.ensures.value) c.in_ok-merge.ensures.maximal

pub put-requires-clause-above : goal.put-requires-clause-above
put-requires-clause-above g c =
    let v = g.B.Width.value in
    let made = subst (λ (L : List (ℤ × ℤ)). IsRunsOf L (KeptBy c.args.op (Covers c.deref.result.now) (Covers c.deref-in-windows.result.now))) (sym c.deref-in-windows-2.ensures.value) c.in_ok-merge.ensures in
    let piece = piece_there c.args.op (Covers (g.S.Parts.runs c.args.first.now)) (Covers (g.T.Parts.runs c.args.second.now)) c.gather.new.list.items c.gather-in-windows.new.list.items c.deref.result.now c.deref-in-windows.result.now
    c.deref-in-windows-2.result.now c.new-window.result (v c.windows.lower) (v c.min-upper.result) c.new-window.ensures.value c.deref.ensures.value c.deref-in-windows.ensures.value
    c.in_ok-gather.ensures c.in_ok-gather-2.ensures made in
    window_is_above _ (flattened c.windows.pages) c.deref-in-windows-2.result.now (v c.windows.lower) (v c.min-upper.result) c.windows.invariant.made piece

pub returns-then-le : goal.returns-then-le
returns-then-le g c =
    let v = g.B.Width.value in
    let made = subst (λ (L : List (ℤ × ℤ)). IsRunsOf L (KeptBy c.args.op (Covers c.deref.result.now) (Covers c.deref-in-windows.result.now))) (sym c.deref-in-windows-2.ensures.value) c.in_ok-merge.ensures in
    let piece = piece_there c.args.op (Covers (g.S.Parts.runs c.args.first.now)) (Covers (g.T.Parts.runs c.args.second.now)) c.gather.new.list.items c.gather-in-windows.new.list.items c.deref.result.now c.deref-in-windows.result.now
    c.deref-in-windows-2.result.now c.new-window.result (v c.windows.lower) (v c.min-upper.result) c.new-window.ensures.value c.deref.ensures.value c.deref-in-windows.ensures.value
    c.in_ok-gather.ensures c.in_ok-gather-2.ensures made in
    let last = (le_number g.met.B.Width.ordered _ _ _ c.le.ensures).0 c.if-le.true in
    let end = c.max_value.ensures in
    window_is_last _ (flattened c.windows.pages) c.deref-in-windows-2.result.now (v c.windows.lower) (v c.min-upper.result) c.windows.invariant.made piece (flattened c.put.new.pages) g.B.Width.whole
    (kept_within c.args.op _ _ (IsBetween g.B.Width.whole) c.requires.first.within c.requires.second.within) (omega (arith, ints, last, end)) c.in_ok-put.ensures

pub add_in_range-lower-requires : goal.add_in_range-lower-requires
add_in_range-lower-requires g c =
    let v = g.B.Width.value in
    let least = lower_of (v c.end_from.result) (v c.end_from-in-windows.result) (v c.min-upper.result) (min_number g.met.B.Width.ordered _ _ _ c.min-upper.ensures) in
    let order : v c.windows.lower ≤ℤ v c.min-upper.result =
    ⊎_elim (λ e. let o = c.end_from.ensures.in_order in omega (arith, ints, e, o)) (λ e. let o = c.end_from-in-windows.ensures.in_order in omega (arith, ints, e, o)) least.2 in
    let less : v c.min-upper.result <ℤ g.B.Width.whole.1 = let l = not_le_number g.met.B.Width.ordered _ _ _ c.le.ensures c.if-le.false in let m = c.max_value.ensures in omega (arith, ints, l, m) in
    let low = c.windows.invariant.in_range.0 in
    let one = c.one.ensures in
    (omega (arith, ints, order, low, one), omega (arith, ints, less, one))

pub windows-smaller : goal.windows-smaller
windows-smaller g c =
    let v = g.B.Width.value in
    let least = lower_of (v c.end_from.result) (v c.end_from-in-windows.result) (v c.min-upper.result) (min_number g.met.B.Width.ordered _ _ _ c.min-upper.ensures) in
    let order : v c.windows.lower ≤ℤ v c.min-upper.result =
    ⊎_elim (λ e. let o = c.end_from.ensures.in_order in omega (arith, ints, e, o)) (λ e. let o = c.end_from-in-windows.ensures.in_order in omega (arith, ints, e, o)) least.2 in
    let less : v c.min-upper.result <ℤ g.B.Width.whole.1 = let l = not_le_number g.met.B.Width.ordered _ _ _ c.le.ensures c.if-le.false in let m = c.max_value.ensures in omega (arith, ints, l, m) in
    let next = c.add_in_range-lower.ensures in
    let one = c.one.ensures in
    less_left (v c.windows.lower) (v c.min-upper.result) (v c.add_in_range-lower.result) g.B.Width.whole.1 order less (omega (arith, ints, next, one))

pub windows-preserved : goal.windows-preserved
windows-preserved g c =
    let v = g.B.Width.value in
    let least = lower_of (v c.end_from.result) (v c.end_from-in-windows.result) (v c.min-upper.result) (min_number g.met.B.Width.ordered _ _ _ c.min-upper.ensures) in
    let order : v c.windows.lower ≤ℤ v c.min-upper.result =
    ⊎_elim (λ e. let o = c.end_from.ensures.in_order in omega (arith, ints, e, o)) (λ e. let o = c.end_from-in-windows.ensures.in_order in omega (arith, ints, e, o)) least.2 in
    let less : v c.min-upper.result <ℤ g.B.Width.whole.1 = let l = not_le_number g.met.B.Width.ordered _ _ _ c.le.ensures c.if-le.false in let m = c.max_value.ensures in omega (arith, ints, l, m) in
    let made = subst (λ (L : List (ℤ × ℤ)). IsRunsOf L (KeptBy c.args.op (Covers c.deref.result.now) (Covers c.deref-in-windows.result.now))) (sym c.deref-in-windows-2.ensures.value) c.in_ok-merge.ensures in
    let piece = piece_there c.args.op (Covers (g.S.Parts.runs c.args.first.now)) (Covers (g.T.Parts.runs c.args.second.now)) c.gather.new.list.items c.gather-in-windows.new.list.items c.deref.result.now c.deref-in-windows.result.now
    c.deref-in-windows-2.result.now c.new-window.result (v c.windows.lower) (v c.min-upper.result) c.new-window.ensures.value c.deref.ensures.value c.deref-in-windows.ensures.value
    c.in_ok-gather.ensures c.in_ok-gather-2.ensures made in
    let next = c.add_in_range-lower.ensures in
    let one = c.one.ensures in
    let low = c.windows.invariant.in_range.0 in record {
      in_range = (omega (arith, ints, order, low, next, one), omega (arith, ints, less, next, one));
      made = window_is_next _ (flattened c.windows.pages) c.deref-in-windows-2.result.now (v c.windows.lower) (v c.min-upper.result) c.windows.invariant.made piece (flattened c.put.new.pages) (v c.add_in_range-lower.result) order
          (omega (arith, ints, next, one)) c.in_ok-put.ensures;
    }

pub windows-init : goal.windows-init
windows-init g c =
    let v = g.B.Width.value c.min_value-lower.result in
    let e = c.min_value-lower.ensures in
    let r = g.met.B.Width.range in
    let S = KeptBy c.args.op (Covers (g.S.Parts.runs c.args.first.now)) (Covers (g.T.Parts.runs c.args.second.now)) in
    let none = kept_within c.args.op (Covers (g.S.Parts.runs c.args.first.now)) (Covers (g.T.Parts.runs c.args.second.now)) (IsBetween g.B.Width.whole) c.requires.first.within c.requires.second.within in
    record {
      in_range = (omega (arith, ints, e), let low = r.low_at_most in let high = r.high_at_least in omega (arith, ints, e, low, high));
      made = subst (λ (P : List (List (ℤ × ℤ))). IsRunsOf (flattened P) (Below v S)) (sym c.new-pages.ensures) (nothing_below S g.B.Width.whole v e none);
    }
