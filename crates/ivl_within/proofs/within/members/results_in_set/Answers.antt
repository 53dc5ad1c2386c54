use Rattle.std.proofs.Common.{List, ℤ, subst}
use Rattle.std.proofs.lemmas.Result.{IfOk-weaker}
use Rattle.std.specs.Prelude.{MatchOption, Option}
use Rattle.ivl_laws.specs.Sets.{Intersection, IsSubset}
use Rattle.ivl_laws.specs.Runs.{Covers, IsRunsOf}
use Rattle.ivl_laws.proofs.SetLaws.{IsRunsOf-same}
use Rattle.ivl_within.specs.Within.{SumsBy}
use Rattle.ivl_within.proofs.within.members.results_in_set.Goals as goal

pub returns-in-None : goal.returns-in-None
returns-in-None g c =
    let X = Covers c.args.x.now in
    let S = SumsBy c.args.op (Covers c.args.a.now) (Covers c.args.b.now) in
    let part : IsSubset X S = subst (λ (o : Option (List (ℤ × ℤ))). MatchOption o (IsSubset X S) (λ L. IsRunsOf L (Intersection X S))) c.in-None.is c.in_ok-results.ensures in
    IfOk-weaker c.clone_of.result _ _ (λ N h. IsRunsOf-same X (Intersection X S) N (λ z. ((λ m. (m, part z m)), (λ (m, s). m))) h) c.clone_of.ensures
