use Rattle.std.proofs.Common.{ℤ, List, length, ap, subst, arith}
use Rattle.ivl_laws.specs.Runs.{Covers}
use Rattle.ivl_places.proofs.CutRuns.{none_before}
use Rattle.intervallum.proofs.interval_set.shrinks.cut_runs.Goals as goal

pub push_cut-requires-clause-apart : goal.push_cut-requires-clause-apart
push_cut-requires-clause-apart g c = λ x y s t. absurd (subst (λ (L : List (ℤ × ℤ)). Covers L x) c.in_ok-kept.ensures s)

pub returns-clause-members : goal.returns-clause-members
returns-clause-members g c = none_before c.in_ok-kept.kept c.push_cut.new.self _ c.in_ok-kept.ensures c.in_ok-push_cut.ensures.members

pub returns-clause-runs_at_most : goal.returns-clause-runs_at_most
returns-clause-runs_at_most g c =
    let none = ap (λ (L : List (ℤ × ℤ)). length L) c.in_ok-kept.ensures in
    omega (arith, none, c.in_ok-push_cut.ensures.count)
