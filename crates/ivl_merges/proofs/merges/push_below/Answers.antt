use Rattle.std.proofs.Common.{◌≡◌, ◌∙◌, ℤ, ◌-ℤ◌, ◌≤ℤ◌, ◌<ℤ◌, pos, arith}
use Rattle.std.specs.Int.{int_min}
use Rattle.std.proofs.lemmas.Int.{ints, clamps}
use Rattle.ivl_laws.proofs.Orders.{le_number, min_number, not_le_number}
use Rattle.ivl_laws.proofs.Runs.{pair_same}
use Rattle.ivl_walks.proofs.Laying.{adds_filled, adds_no_run}
use Rattle.ivl_walks.proofs.IntersectionSteps.{both_starts}
use Rattle.ivl_merges.proofs.merges.push_below.Goals as goal

less : {x y a b : ℤ} → x ≡ a -ℤ b → a ≡ y → b ≡ pos 1 → x ≡ y -ℤ pos 1
less e f h = cc

starts_by : (x y a b c : ℤ) → x ≡ a → y ≡ c → a ≤ℤ b → x <ℤ y → a ≤ℤ int_min b (c -ℤ pos 1)
starts_by x y a b c e f o h = omega (arith, ints, clamps)

crossed : (x y a b c : ℤ) → x ≡ a → y ≡ c → y ≤ℤ x → ¬ (a ≤ℤ int_min b (c -ℤ pos 1))
crossed x y a b c e f o h = omega (arith, ints, clamps)

pub returns-then-le-clause-list : goal.returns-then-le-clause-list
returns-then-le-clause-list g c = λ start.
    adds_no_run _ (g.S.Sink.holds start c.args.out.now) (crossed _ _ _ _ _ c.lower-start.ensures c.lower-next.ensures ((le_number g.met.R.Bound.Width.ordered _ _ _ c.le.ensures).0 c.if-le.true))

pub returns-clause-list : goal.returns-clause-list
returns-clause-list g c = λ start.
    let o = g.met.R.Bound.Width.ordered in
    let end = min_number o _ _ _ c.min-end.ensures ∙ both_starts c.upper.ensures (less c.sub_in_range.ensures c.lower-next.ensures c.one.ensures) in
    let test = not_le_number o _ _ _ c.le.ensures c.if-le.false in
    let is = c.of.ensures ∙ pair_same _ ((g.R.Pair.pair c.args.run).0, int_min (g.R.Pair.pair c.args.run).1 ((g.R.Pair.pair c.args.other).0 -ℤ pos 1)) c.lower-start.ensures end in
    adds_filled _ _ (g.S.Sink.holds start c.args.out.now) (g.S.Sink.holds start c.push.new.self) is (starts_by _ _ _ _ _ c.lower-start.ensures c.lower-next.ensures c.requires.run.0 test) (c.push.ensures.list start)
