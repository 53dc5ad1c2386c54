use Rattle.std.proofs.Common.{ℤ, List, subst}
use Rattle.ivl_laws.specs.Counts.{IsCountOf}
use Rattle.ivl_laws.specs.Sets.{Intersection, IsBetween}
use Rattle.ivl_laws.specs.Runs.{Covers}
use Rattle.ivl_laws.proofs.Adding.{untrue}
use Rattle.ivl_laws.proofs.Counts.{IsCountOf-same}
use Rattle.ivl_laws.proofs.Intervals.{not_crossed}
use Rattle.ivl_paged.proofs.Meeting.{met_has_all, met_within}
use Rattle.ivl_paged.proofs.paged_set.PagedSet.size_within.Goals as goal

pub size_of_parts-requires-clause-runs : goal.size_of_parts-requires-clause-runs
size_of_parts-requires-clause-runs g c = met_within c.self.inside.pages c.met_by.result.now c.args.window.now c.self.invariant.maximal c.met_by.ensures g.B.Width.whole c.self.invariant

pub size_of_parts-requires-clause-filled : goal.size_of_parts-requires-clause-filled
size_of_parts-requires-clause-filled g c = not_crossed c.args.window.now (untrue _ c.if-is_empty.false c.is_empty.ensures.crossed)

pub returns : goal.returns
returns g c =
    subst (λ (L : List (ℤ × ℤ)). IsCountOf (g.B.Output.SizeNumber.size c.size_of_parts.result) (Intersection (Covers L) (IsBetween c.args.window.now))) c.self.view_is
    (IsCountOf-same _ _ _ (met_has_all c.self.inside.pages c.met_by.result.now c.args.window.now c.self.invariant.maximal c.met_by.ensures) c.size_of_parts.ensures)
