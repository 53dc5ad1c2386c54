use Rattle.std.proofs.Common.{List, ℤ, subst}
use Rattle.std.proofs.lemmas.Result.{on_ok_weaker}
use Rattle.ivl_laws.specs.Sets.{Without}
use Rattle.ivl_laws.specs.Runs.{Covers, IsRunsOf}
use Rattle.ivl_laws.proofs.Lengths.{decide_covers}
use Rattle.ivl_paged.proofs.InPlace.{kept_of_few}
use Rattle.ivl_paged.proofs.paged_set.PagedSet.intersect_with_few.Goals as goal

pub returns-clause-ok : goal.returns-clause-ok
returns-clause-ok g c =
    on_ok_weaker c.remove_runs.result
    (λ r. kept_of_few g.B.Width.whole c.args.self.now c.remove_runs.new.self c.in_ok-between.between (Covers c.args.few.now) c.in_whole.ensures.within (decide_covers c.args.few.now) c.in_ok-between.ensures.members
    (subst (λ (L : List (ℤ × ℤ)). IsRunsOf c.remove_runs.new.self (Without (Covers c.args.self.now) (Covers L))) c.runs.ensures.same r))
    c.remove_runs.ensures.ok
