use Rattle.std.proofs.Common.{⊎_elim, ℤ, subst}
use Rattle.ivl_laws.specs.Sets.{AtLeast, IsBetween, SameMembers}
use Rattle.ivl_laws.specs.Runs.{Covers}
use Rattle.ivl_laws.proofs.Ranges.{IsRunListIn-runs}
use Rattle.ivl_laws.proofs.SetLaws.{IsRunsOf-same}
use Rattle.ivl_places.proofs.Splitting.{cut_is_last, rest_is_below}
use Rattle.ivl_paged.specs.Pages.{flattened}
use Rattle.ivl_paged.proofs.paged_set.PagedSet.split_off.Goals as goal

pub unwrap-requires : goal.unwrap-requires
unwrap-requires g c =
    let cut = subst (λ (p : ℤ × ℤ). SameMembers (IsBetween c.shrink_left.result) (AtLeast (g.B.Width.value c.args.v) (IsBetween p))) c.whole.ensures.value c.shrink_left.ensures in
    ⊎_elim c.remove_interval.ensures.empty c.remove_interval.ensures.in_place
    (cut_is_last g.B.Width.whole c.shrink_left.result (g.B.Width.value c.args.v) (Covers c.args.self.now) cut c.in_whole.ensures.within)

pub returns-clause-below : goal.returns-clause-below
returns-clause-below g c =
    let cut = subst (λ (p : ℤ × ℤ). SameMembers (IsBetween c.shrink_left.result) (AtLeast (g.B.Width.value c.args.v) (IsBetween p))) c.whole.ensures.value c.shrink_left.ensures in
    IsRunsOf-same _ _ c.remove_interval.new.self
    (rest_is_below g.B.Width.whole c.shrink_left.result (g.B.Width.value c.args.v) (Covers c.args.self.now) cut c.in_whole.ensures.within)
    (rw c.unwrap.ensures at c.remove_interval.ensures.ok)

pub invariant_of-result : goal.invariant_of-result
invariant_of-result g c =
    IsRunListIn-runs g.B.Width.whole (flattened c.in_ok-above.above) (AtLeast (g.B.Width.value c.args.v) (Covers (flattened c.self.inside.pages))) c.in_ok-above.ensures (λ z s. c.self.invariant.within z s.0)
