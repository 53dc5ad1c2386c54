use Rattle.std.proofs.Common.{◌∙◌, ◌+◌, sym, subst, arith}
use Rattle.std.proofs.lemmas.Option.{slice_get_within}
use Rattle.ivl_laws.proofs.Orders.{le_number}
use Rattle.ivl_walks.proofs.Suffixes.{none_from, one_moves}
use Rattle.ivl_walks.proofs.UnionSteps.{TakesTo, takes_left_alone, takes_next, takes_right_alone}
use Rattle.ivl_merges.proofs.merges.take_first.Goals as goal

pub returns-in-Some-Some-clause-taken : goal.returns-in-Some-Some-clause-taken
returns-in-Some-Some-clause-taken g c =
    let pair = g.R.Pair.pair in
    let a = c.args.a.now in
    let b = c.args.b.now in
    let i = c.args.i.now in
    let j = c.args.j.now in
    subst (λ run. TakesTo pair a b i j (i + c.from.result) (j + c.from-in-Some-Some.result) run) (sym c.select_unpredictable.ensures)
    (takes_next pair a b i j c.le-is_first.result c.in-Some-Some.run' c.in-Some-Some.other _ _ _ _ (sym c.pair_at.ensures ∙ c.in-Some-Some.is-0) (sym c.pair_at-2.ensures ∙ c.in-Some-Some.is-1)
    c.lower.ensures c.lower-in-Some-Some.ensures (le_number g.met.R.Bound.Width.ordered _ _ _ c.le-is_first.ensures) c.from.ensures c.from-in-Some-Some.ensures)

pub returns-in-Some-Some-clause-first : goal.returns-in-Some-Some-clause-first
returns-in-Some-Some-clause-first g c =
    let h = slice_get_within c.args.a.now c.args.i.now c.in-Some-Some.run' (sym c.pair_at.ensures ∙ c.in-Some-Some.is-0) in
    let one = one_moves c.le-is_first.result _ _ c.from.ensures c.from-in-Some-Some.ensures in
    omega (arith, h, one)

pub returns-in-Some-Some-clause-second : goal.returns-in-Some-Some-clause-second
returns-in-Some-Some-clause-second g c =
    let h = slice_get_within c.args.b.now c.args.j.now c.in-Some-Some.other (sym c.pair_at-2.ensures ∙ c.in-Some-Some.is-1) in
    let one = one_moves c.le-is_first.result _ _ c.from.ensures c.from-in-Some-Some.ensures in
    omega (arith, h, one)

pub returns-in-Some-Some-clause-one : goal.returns-in-Some-Some-clause-one
returns-in-Some-Some-clause-one g c =
    let one = one_moves c.le-is_first.result _ _ c.from.ensures c.from-in-Some-Some.ensures in
    omega (arith, one)

pub returns-in-Some-None-clause-taken : goal.returns-in-Some-None-clause-taken
returns-in-Some-None-clause-taken g c =
    takes_left_alone g.R.Pair.pair c.args.a.now c.args.b.now c.args.i.now c.args.j.now c.in-Some-None.run'
    (sym c.pair_at.ensures ∙ c.in-Some-None.is-0) (sym c.pair_at-2.ensures ∙ c.in-Some-None.is-1)

pub returns-in-Some-None-clause-first : goal.returns-in-Some-None-clause-first
returns-in-Some-None-clause-first g c = let h = slice_get_within c.args.a.now c.args.i.now c.in-Some-None.run' (sym c.pair_at.ensures ∙ c.in-Some-None.is-0) in omega (arith, h)

pub returns-in-None-Some-clause-taken : goal.returns-in-None-Some-clause-taken
returns-in-None-Some-clause-taken g c =
    takes_right_alone g.R.Pair.pair c.args.a.now c.args.b.now c.args.i.now c.args.j.now c.in-None-Some.other
    (sym c.pair_at.ensures ∙ c.in-None-Some.is-0) (sym c.pair_at-2.ensures ∙ c.in-None-Some.is-1)

pub returns-in-None-Some-clause-second : goal.returns-in-None-Some-clause-second
returns-in-None-Some-clause-second g c = let h = slice_get_within c.args.b.now c.args.j.now c.in-None-Some.other (sym c.pair_at-2.ensures ∙ c.in-None-Some.is-1) in omega (arith, h)

pub returns-in-None-None-clause-taken : goal.returns-in-None-None-clause-taken
returns-in-None-None-clause-taken g c = (
  none_from g.R.Pair.pair c.args.a.now c.args.i.now (sym c.pair_at.ensures ∙ c.in-None-None.is-0),
  none_from g.R.Pair.pair c.args.b.now c.args.j.now (sym c.pair_at-2.ensures ∙ c.in-None-None.is-1),
)
