use Rattle.std.proofs.Common.{⊎_elim, ℤ, subst}
use Rattle.ivl_laws.specs.Sets.{AtLeast, IsBetween, SameMembers}
use Rattle.ivl_laws.specs.Runs.{Covers}
use Rattle.ivl_laws.proofs.SetLaws.{IsRunsOf-same}
use Rattle.ivl_places.proofs.Splitting.{cut_is_last, rest_is_below}
use Rattle.intervallum.proofs.interval_set.IntervalSet.split_off.Goals as goal

pub unwrap-requires : goal.unwrap-requires
unwrap-requires g c =
    let cut = subst (λ (p : ℤ × ℤ). SameMembers (IsBetween c.shrink_left-2.result) (AtLeast (g.B.Width.value c.args.v) (IsBetween p))) c.whole.ensures.value c.shrink_left-2.ensures in
    ⊎_elim c.remove_interval.ensures.empty c.remove_interval.ensures.in_place
    (cut_is_last g.B.Width.whole c.shrink_left-2.result (g.B.Width.value c.args.v) (Covers c.args.self.now) cut c.in_whole.ensures.within)

pub returns-clause-below : goal.returns-clause-below
returns-clause-below g c =
    let cut = subst (λ (p : ℤ × ℤ). SameMembers (IsBetween c.shrink_left-2.result) (AtLeast (g.B.Width.value c.args.v) (IsBetween p))) c.whole.ensures.value c.shrink_left-2.ensures in
    IsRunsOf-same _ _ c.remove_interval.new.self
    (rest_is_below g.B.Width.whole c.shrink_left-2.result (g.B.Width.value c.args.v) (Covers c.args.self.now) cut c.in_whole.ensures.within)
    (rw c.unwrap.ensures at c.remove_interval.ensures.ok)
