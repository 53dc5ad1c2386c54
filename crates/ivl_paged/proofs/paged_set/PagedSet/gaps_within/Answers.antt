use Rattle.std.proofs.Common.{ℤ, List, subst, sym}
use Rattle.std.proofs.lemmas.Result.{IfOk-weaker}
use Rattle.ivl_laws.specs.Sets.{IsBetween}
use Rattle.ivl_laws.specs.Runs.{Covers, IsRunsOf}
use Rattle.ivl_laws.proofs.SetLaws.{IsRunsOf-same}
use Rattle.ivl_places.specs.Windows.{OfRunsThatMeet}
use Rattle.ivl_paged.proofs.Meeting.{gaps_seen}
use Rattle.ivl_paged.proofs.paged_set.PagedSet.gaps_within.Goals as goal

pub returns : goal.returns
returns g c =
    let met = subst (λ (K : List (ℤ × ℤ)). IsRunsOf K (OfRunsThatMeet (IsBetween c.args.window.now) (Covers c.args.self.now))) (sym c.in_ok-met.ensures) c.runs_within.ensures.members in
    IfOk-weaker c.difference-2.result _ _
    (λ L r. IsRunsOf-same _ _ L (gaps_seen (IsBetween c.args.window.now) (Covers c.args.self.now) c.in_ok-of.field-0 c.in_ok-met.met c.in_ok-of.ensures.members met) r) c.difference-2.ensures.members
