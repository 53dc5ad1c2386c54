use Rattle.std.proofs.Common.{◌≡◌, ◌∙◌, ◌-◌, ◌∷◌, ◌++◌, [], ℤ, ap, length, refl, take}
use Rattle.std.specs.Int.{from_bool, int_max}
use Rattle.std.specs.Prelude.{cond}
use Rattle.ivl_laws.proofs.Orders.{max_number, number_of_cond}
use Rattle.ivl_walks.proofs.Unions.{adds_by_test, both_ends, last_is_written, same_conds}
use Rattle.ivl_walks.proofs.UnionSteps.{joined_is_run}
use Rattle.ivl_merges.proofs.merges.push_joined.Goals as goal

pub returns-clause-adds : goal.returns-clause-adds
returns-clause-adds g c = λ start L h m s e.
    let V = g.R.Bound.Width.value in
    let joined = c.joins-is_joined.result in
    let p = g.R.Pair.pair c.args.last in
    let q = g.R.Pair.pair c.args.run in
    let r = g.R.Pair.pair c.of-next.result in
    let low : r.0 ≡ cond joined p.0 q.0 = ap (λ (t : ℤ × ℤ). t.0) c.of-next.ensures ∙ ap V c.select_unpredictable-lower.ensures ∙ number_of_cond V joined _ _ ∙ same_conds joined c.lower.ensures c.lower-2.ensures in
    let high : r.1 ≡ int_max p.1 q.1 = ap (λ (t : ℤ × ℤ). t.1) c.of-next.ensures ∙ max_number g.met.R.Bound.Width.ordered _ _ _ c.max.ensures ∙ both_ends c.upper.ensures c.upper-2.ensures in
    let n = length L - from_bool joined in
    (take n L ++ r ∷ [], c.push_over.ensures.list start L h, adds_by_test joined L p q r n c.joins-is_joined.ensures e m s c.requires.run.0 low high refl, last_is_written (take n L) r)

pub returns-clause-last : goal.returns-clause-last
returns-clause-last g c =
    let V = g.R.Bound.Width.value in
    let joined = c.joins-is_joined.result in
    let p = g.R.Pair.pair c.args.last in
    let q = g.R.Pair.pair c.args.run in
    let r = g.R.Pair.pair c.of-next.result in
    let low : r.0 ≡ cond joined p.0 q.0 = ap (λ (t : ℤ × ℤ). t.0) c.of-next.ensures ∙ ap V c.select_unpredictable-lower.ensures ∙ number_of_cond V joined _ _ ∙ same_conds joined c.lower.ensures c.lower-2.ensures in
    let high : r.1 ≡ int_max p.1 q.1 = ap (λ (t : ℤ × ℤ). t.1) c.of-next.ensures ∙ max_number g.met.R.Bound.Width.ordered _ _ _ c.max.ensures ∙ both_ends c.upper.ensures c.upper-2.ensures in
    joined_is_run joined g.R.Bound.Width.whole p q r c.requires.last c.requires.run low high
