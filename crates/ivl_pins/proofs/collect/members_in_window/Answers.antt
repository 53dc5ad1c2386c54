use Rattle.std.proofs.Common.{ℤ, List, refl, sym, subst}
use Rattle.std.proofs.lemmas.Iterator.Consumers.{YieldsList-from_first, map_from_collect}
use Rattle.std.proofs.lemmas.Result.{IfOk-weaker}
use Rattle.ivl_laws.specs.Sets.{Intersection, IsBetween, SameMembers}
use Rattle.ivl_laws.specs.Runs.{Covers}
use Rattle.ivl_laws.specs.Counts.{IsIn}
use Rattle.ivl_places.specs.Members.{IsAscending}
use Rattle.ivl_pins.proofs.collect.members_in_window.Goals as goal

pub returns-clause-members : goal.returns-clause-members
returns-clause-members g c = IfOk-weaker c.collect.result _ _ (λ all e.
    subst (λ (M : List ℤ). SameMembers (Intersection (Covers c.args.set.now) (IsBetween c.args.window.now)) (IsIn M)) (sym e) c.members_within.ensures.members)
    (map_from_collect c.collect.result c.collect.ensures.ran (YieldsList-from_first g.B.Width.value (λ (l : List ℤ). l) c.members_within.result refl))

pub returns-clause-ascending : goal.returns-clause-ascending
returns-clause-ascending g c = IfOk-weaker c.collect.result _ _ (λ all e. subst IsAscending (sym e) c.members_within.ensures.ascending)
    (map_from_collect c.collect.result c.collect.ensures.ran (YieldsList-from_first g.B.Width.value (λ (l : List ℤ). l) c.members_within.result refl))
