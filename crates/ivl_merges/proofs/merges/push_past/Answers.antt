use Rattle.std.proofs.Common.{◌≡◌, ◌∙◌, ap, ℤ, ◌+ℤ◌, ◌≤ℤ◌, ◌<ℤ◌, pos, arith}
use Rattle.std.proofs.lemmas.Int.{ints}
use Rattle.ivl_laws.proofs.Orders.{le_number, not_le_number}
use Rattle.ivl_laws.proofs.Runs.{pair_same}
use Rattle.ivl_walks.proofs.Laying.{adds_filled, adds_no_run}
use Rattle.ivl_merges.proofs.merges.push_past.Goals as goal

crossed : (x a c : ℤ) → x ≡ c → x ≤ℤ a → ¬ ((a +ℤ pos 1) ≤ℤ c)
crossed x a c e o h = omega (arith, ints)

starts_by : (x a c : ℤ) → x ≡ c → a <ℤ x → (a +ℤ pos 1) ≤ℤ c
starts_by x a c e o = omega (arith, ints)

pub returns-then-le : goal.returns-then-le
returns-then-le g c = λ start.
    adds_no_run _ (g.S.Sink.holds start c.args.out.now) (crossed _ _ _ c.max_value-high.ensures ((le_number g.met.R.Bound.Width.ordered _ _ _ c.le.ensures).0 c.if-le.true))

pub returns : goal.returns
returns g c = λ start.
    let test = not_le_number g.met.R.Bound.Width.ordered _ _ _ c.le.ensures c.if-le.false in
    let low = c.add_in_range.ensures ∙ ap (λ (n : ℤ). g.R.Bound.Width.value c.args.end +ℤ n) c.one.ensures in
    let is = c.of.ensures ∙ pair_same _ (g.R.Bound.Width.value c.args.end +ℤ pos 1, g.R.Bound.Width.whole.1) low c.max_value-high.ensures in
    adds_filled _ _ (g.S.Sink.holds start c.args.out.now) (g.S.Sink.holds start c.push.new.self) is (starts_by _ _ _ c.max_value-high.ensures test) (c.push.ensures.list start)
