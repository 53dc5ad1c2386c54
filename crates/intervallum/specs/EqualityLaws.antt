-- The laws of equality of run lists.
--     same_runs_equiv, same_runs_laws      the laws of the test `same_runs`
use Rattle.std.specs.Cmp.{IsPartialEquivalence, IsEquivalence, partial_equiv_from_equiv}
use Rattle.std.proofs.lemmas.Cmp.{lists_equiv}
use Rattle.ivl_interval.specs.SameInterval.{same_interval_equiv}
use Rattle.intervallum.specs.Equality.{same_runs}

pub same_runs_equiv : IsEquivalence same_runs
same_runs_equiv = lists_equiv same_interval_equiv

pub same_runs_laws : IsPartialEquivalence same_runs
same_runs_laws = partial_equiv_from_equiv same_runs_equiv
