use Rattle.std.proofs.Common.{◌≡◌, ℕ, ◌+◌, suc, ℤ, List, take, take_all, ap, subst, sym, arith}
use Rattle.ivl_map.proofs.Numbers.{IsCounted, counted_all, counted_fits, counted_next}
use Rattle.ivl_map.proofs.interval_map.numbers.size_of.Goals as goal

pub add_in_range-size-requires : goal.add_in_range-size-requires
add_in_range-size-requires g c =
    let eq = g.V.PartialEq.eq in
    let o = g.met.V.Eq.laws in
    let E = c.args.entries.now in
    let i = c.loop-entry.entry-index in
    let d = c.entry-item.result in
    let n = g.B.Output.SizeNumber.size c.loop-entry.size in
    let k = g.B.Output.SizeNumber.size c.size.result in
    let next = counted_next eq o g.B.Width.whole E i d d.0 n k c.requires c.loop-entry-test.true (ap (λ (e : (ℤ × ℤ) × g.row.V.Denot). e.0) c.entry-item.is) c.in_whole.ensures c.size.ensures.members c.loop-entry.invariant in
    counted_fits eq o g.B.Width.whole (take (suc i) E) (n + k) g.B.Output.SizeNumber.greatest g.met.B.Width.countable next

pub loop-entry-preserved : goal.loop-entry-preserved
loop-entry-preserved g c =
    let eq = g.V.PartialEq.eq in
    let o = g.met.V.Eq.laws in
    let E = c.args.entries.now in
    let i = c.loop-entry.entry-index in
    let d = c.entry-item.result in
    let n = g.B.Output.SizeNumber.size c.loop-entry.size in
    let k = g.B.Output.SizeNumber.size c.size.result in
    let next = counted_next eq o g.B.Width.whole E i d d.0 n k c.requires c.loop-entry-test.true (ap (λ (e : (ℤ × ℤ) × g.row.V.Denot). e.0) c.entry-item.is) c.in_whole.ensures c.size.ensures.members c.loop-entry.invariant in
    let more : suc i ≡ i + 1 = omega arith in
    subst (λ (j : ℕ). IsCounted g.B.Width.whole (take j E) (g.B.Output.SizeNumber.size c.add_in_range-size.result)) more
    (subst (λ (s : ℕ). IsCounted g.B.Width.whole (take (suc i) E) s) (sym c.add_in_range-size.ensures) next)

pub returns : goal.returns
returns g c =
    let E = c.args.entries.now in
    let i = c.loop-entry.entry-index in
    let n = g.B.Output.SizeNumber.size c.loop-entry.size in
    counted_all g.V.PartialEq.eq g.met.V.Eq.laws g.B.Width.whole E n
    (subst (λ (L : List ((ℤ × ℤ) × g.row.V.Denot)). IsCounted g.B.Width.whole L n) (take_all i E c.loop-entry-test.false) c.loop-entry.invariant)
