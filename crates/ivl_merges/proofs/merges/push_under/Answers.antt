use Rattle.std.proofs.Common.{◌≡◌, ◌∙◌, ℤ, ◌-ℤ◌, ◌≤ℤ◌, ◌<ℤ◌, pos, arith}
use Rattle.std.proofs.lemmas.Int.{ints}
use Rattle.ivl_laws.proofs.Orders.{le_number, not_le_number}
use Rattle.ivl_laws.proofs.Runs.{pair_same}
use Rattle.ivl_walks.proofs.Laying.{adds_filled, adds_no_run}
use Rattle.ivl_merges.proofs.merges.push_under.Goals as goal

less : {x a b y : ℤ} → x ≡ a -ℤ b → a ≡ y → b ≡ pos 1 → x ≡ y -ℤ pos 1
less e f h = cc

crossed : (x y a c : ℤ) → x ≡ a → y ≡ c → y ≤ℤ x → ¬ (a ≤ℤ (c -ℤ pos 1))
crossed x y a c e f o h = omega (arith, ints)

starts_by : (x y a c : ℤ) → x ≡ a → y ≡ c → x <ℤ y → a ≤ℤ (c -ℤ pos 1)
starts_by x y a c e f o = omega (arith, ints)

pub returns-then-le-clause-list : goal.returns-then-le-clause-list
returns-then-le-clause-list g c = λ start.
    adds_no_run _ (g.S.Sink.holds start c.args.out.now) (crossed _ _ _ _ c.min_value-low.ensures c.lower-start.ensures ((le_number g.met.R.Bound.Width.ordered _ _ _ c.le.ensures).0 c.if-le.true))

pub returns-clause-list : goal.returns-clause-list
returns-clause-list g c = λ start.
    let test = not_le_number g.met.R.Bound.Width.ordered _ _ _ c.le.ensures c.if-le.false in
    let is = c.of.ensures ∙ pair_same _ (g.R.Bound.Width.whole.0, (g.R.Pair.pair c.args.run).0 -ℤ pos 1) c.min_value-low.ensures (less c.sub_in_range.ensures c.lower-start.ensures c.one.ensures) in
    adds_filled _ _ (g.S.Sink.holds start c.args.out.now) (g.S.Sink.holds start c.push.new.self) is (starts_by _ _ _ _ c.min_value-low.ensures c.lower-start.ensures test) (c.push.ensures.list start)
