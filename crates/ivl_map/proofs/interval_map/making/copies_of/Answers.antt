use Rattle.std.proofs.Common.{◌≡◌, true, ℕ, ◌+◌, suc, ℤ, List, take, take_all, ap, subst, sym, arith}
use Rattle.ivl_map.proofs.Kept.{AreCopies, copied, copies_next}
use Rattle.ivl_map.proofs.interval_map.making.copies_of.Goals as goal

pub loop-entry-preserved : goal.loop-entry-preserved
loop-entry-preserved g c =
    let eq = g.V.PartialEq.eq in
    let E = c.args.entries.now in
    let i = c.loop-entry.entry-index in
    let d = c.entry-item.result in
    let P : (ℤ × ℤ) × g.row.V.Denot → Type 0 = λ e. eq e.1 c.in_ok-copy.copy ≡ true in
    let next = copies_next eq g.met.V.Eq.laws E c.loop-entry.made.items i d (d.0, c.in_ok-copy.copy) c.loop-entry-test.true (ap (λ (e : (ℤ × ℤ) × g.row.V.Denot). e.0) c.entry-item.is) (subst P c.entry-item.is c.in_ok-copy.ensures) c.loop-entry.invariant in
    let more : suc i ≡ i + 1 = omega arith in
    subst (λ (j : ℕ). AreCopies eq (take j E) c.push.new.self.items) more
    (subst (λ (D : List ((ℤ × ℤ) × g.row.V.Denot)). AreCopies eq (take (suc i) E) D) (sym c.in_ok-push.ensures.items) next)

pub returns-clause-values : goal.returns-clause-values
returns-clause-values g c =
    let eq = g.V.PartialEq.eq in
    let E = c.args.entries.now in
    copied eq g.met.V.Eq.laws E c.loop-entry.made.items
    (subst (λ (L : List ((ℤ × ℤ) × g.row.V.Denot)). AreCopies eq L c.loop-entry.made.items) (take_all c.loop-entry.entry-index E c.loop-entry-test.false) c.loop-entry.invariant) c.requires
