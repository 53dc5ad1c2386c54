use Rattle.std.proofs.Common.{ℤ, subst, sym}
use Rattle.ivl_laws.specs.Sets.{IsBetween, IsSubset}
use Rattle.ivl_laws.specs.Runs.{Covers}
use Rattle.ivl_laws.proofs.Ranges.{none_is_nil}
use Rattle.ivl_places.specs.Edits.{widened}
use Rattle.ivl_paged.proofs.Removing.{greatest_is_cut}
use Rattle.ivl_paged.proofs.paged_set.PagedSet.pop_last.Goals as goal

pub unwrap-requires : goal.unwrap-requires
unwrap-requires g c =
    c.remove_interval.ensures.in_place (subst (λ (p : ℤ × ℤ). ¬ (IsSubset (IsBetween (widened p)) (Covers c.args.self.now))) (sym c.singleton.ensures.value)
    (greatest_is_cut (Covers c.args.self.now) (g.B.Width.value c.in-Some.greatest) c.in-Some.ensures.greatest.1))

pub returns-in-None-clause-none : goal.returns-in-None-clause-none
returns-in-None-clause-none g c = let nil = (none_is_nil c.args.self.now c.in_whole.ensures.maximal).0 c.in-None.ensures.greatest in (nil, nil)
