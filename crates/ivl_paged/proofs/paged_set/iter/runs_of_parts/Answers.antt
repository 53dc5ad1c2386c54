use Rattle.std.proofs.Common.{ℤ, List, subst}
use Rattle.ivl_laws.specs.Sets.{HasSome, Intersection, IsBetween}
use Rattle.ivl_laws.specs.Runs.{Covers, IsRunsOf}
use Rattle.ivl_places.specs.Windows.{OfRunsThatMeet}
use Rattle.ivl_paged.proofs.Meeting.{each_met, more_met, none_behind}
use Rattle.ivl_paged.proofs.paged_set.iter.runs_of_parts.Goals as goal

pub returns-in_default-split_last-clause-overlap : goal.returns-in_default-split_last-clause-overlap
returns-in_default-split_last-clause-overlap g c =
    none_behind (λ (run : ℤ × ℤ). HasSome (Intersection (IsBetween run) (IsBetween c.args.window.now))) c.in-Some.rest.now c.runs_within-first.result.now c.in_default-split_last.ensures.cases c.runs_within-first.ensures.overlap

pub returns-clause-members : goal.returns-clause-members
returns-clause-members g c =
    more_met c.args.window.now c.args.pages.now c.in-Some-split_last.between.now c.in-Some.rest.now c.in-Some.page.now c.in-Some-split_last.page.now c.runs_within-first.result.now c.runs_within.result.now
    c.requires.maximal c.in-Some.ensures.cases.0 c.requires.inside
    (subst (λ (K : List (ℤ × ℤ)). IsRunsOf c.runs_within-first.result.now (OfRunsThatMeet (IsBetween c.args.window.now) (Covers K))) c.set.ensures.same c.runs_within-first.ensures.members) c.runs_within-first.ensures.overlap
    (subst (λ (K : List (ℤ × ℤ)). IsRunsOf c.runs_within.result.now (OfRunsThatMeet (IsBetween c.args.window.now) (Covers K))) c.set-2.ensures.same c.runs_within.ensures.members) c.runs_within.ensures.overlap
    c.in-Some-split_last.ensures.cases.0

pub returns-clause-overlap : goal.returns-clause-overlap
returns-clause-overlap g c =
    each_met c.args.window.now c.args.pages.now c.in-Some-split_last.between.now c.in-Some.rest.now c.in-Some.page.now c.in-Some-split_last.page.now c.runs_within-first.result.now c.runs_within.result.now
    c.requires.maximal c.in-Some.ensures.cases.0 c.requires.inside
    (subst (λ (K : List (ℤ × ℤ)). IsRunsOf c.runs_within-first.result.now (OfRunsThatMeet (IsBetween c.args.window.now) (Covers K))) c.set.ensures.same c.runs_within-first.ensures.members) c.runs_within-first.ensures.overlap
    (subst (λ (K : List (ℤ × ℤ)). IsRunsOf c.runs_within.result.now (OfRunsThatMeet (IsBetween c.args.window.now) (Covers K))) c.set-2.ensures.same c.runs_within.ensures.members) c.runs_within.ensures.overlap
    c.in-Some-split_last.ensures.cases.0
