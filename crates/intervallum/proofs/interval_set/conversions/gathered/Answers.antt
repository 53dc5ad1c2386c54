use Rattle.std.proofs.Common.{◌≡◌, ℤ, List, ◌∷◌, subst}
use Rattle.std.proofs.lemmas.Result.{IfOk-weaker}
use Rattle.std.specs.Iterator.{Drains}
use Rattle.ivl_laws.specs.Runs.{Covers, IsRunsOf}
use Rattle.intervallum.proofs.interval_set.conversions.gathered.Goals as goal

pub returns : goal.returns
returns g c =
    let (it, items, is, added, drains) = c.in_ok-extend.ensures.ran in
    let list : c.extend.new.self.items ≡ c.args.first ∷ c.args.second ∷ items =
    rw (added.0, c.push_reserved-2.ensures.items, c.push_reserved.ensures.items, c.in_ok-list.ensures.items) in
    IfOk-weaker c.coalesce.result _ _ (λ L runs.
    (items, subst (λ t. Drains g.I.Iterator.next_gives t items) is drains, subst (λ (N : List (ℤ × ℤ)). IsRunsOf L (Covers N)) list runs)) c.coalesce.ensures
