use Rattle.std.proofs.Common.{◌≡◌, true, ℤ, List, subst, sym}
use Rattle.std.proofs.lemmas.Result.{IfOk-weaker}
use Rattle.intervallum.specs.Equality.{same_runs}
use Rattle.intervallum.specs.EqualityLaws.{same_runs_equiv}
use Rattle.ivl_map.proofs.value.IntervalSetMapValue.try_copy.Goals as goal

pub returns : goal.returns
returns g c =
    let L = c.args.self.now in
    IfOk-weaker c.try_clone.result (λ M. M ≡ L) (λ M. same_runs L M ≡ true)
    (λ M e. subst (λ (K : List (ℤ × ℤ)). same_runs L K ≡ true) (sym e) (same_runs_equiv.refl L)) c.try_clone.ensures
