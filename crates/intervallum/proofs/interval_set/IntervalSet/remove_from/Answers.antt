use Rattle.std.proofs.Common.{ℤ, List, subst, sym, arith}
use Rattle.std.proofs.lemmas.Result.{on_ok_weaker}
use Rattle.ivl_laws.specs.Sets.{IsBetween, IsSubset, Without}
use Rattle.ivl_laws.specs.Runs.{Covers, IsRunsOf}
use Rattle.ivl_laws.proofs.Adding.{untrue}
use Rattle.ivl_laws.proofs.Intervals.{not_crossed}
use Rattle.ivl_laws.proofs.Ranges.{IsRunListIn-runs}
use Rattle.ivl_laws.proofs.Runs.{lower_end}
use Rattle.ivl_places.specs.Edits.{IsSpan, replaced, widened}
use Rattle.ivl_places.proofs.Allocating.{ok_unless_split}
use Rattle.ivl_places.proofs.Splicing.{left_where_none}
use Rattle.intervallum.proofs.interval_set.IntervalSet.remove_from.Goals as goal

pub returns-then-start-end-clause-ok : goal.returns-then-start-end-clause-ok
returns-then-start-end-clause-ok g c =
    let P : ℤ → Type 0 = λ u. IsSpan c.args.self.now u c.args.interval.1 c.span-start.result.0 c.span-start.result.1 in
    let Q : ℤ → Type 0 = λ v. IsSpan c.args.self.now (g.B.Width.value c.lower.result) v c.span-start.result.0 c.span-start.result.1 in
    left_where_none c.args.self.now c.args.interval c.span-start.result.0 c.span-start.result.1 c.as_runs-runs.ensures.runs.maximal
    (subst P c.lower.ensures.value (subst Q c.upper.ensures.value c.span-start.ensures)) c.if-start-end.true

pub replace-requires-clause-runs : goal.replace-requires-clause-runs
replace-requires-clause-runs g c =
    let P : List (ℤ × ℤ) → Type 0 = λ L. IsRunsOf (replaced L c.span-start.result.0 c.span-start.result.1 c.rests-below.result.0 c.rests-below.result.1) (Without (Covers L) (IsBetween c.args.interval)) in
    IsRunListIn-runs g.B.Width.whole _ (Without (Covers c.args.self.now) (IsBetween c.args.interval)) (subst P c.as_runs-runs.ensures.same c.rests-below.ensures.rest)
    (λ z w. c.as_runs-runs.ensures.runs.within z w.0)

pub returns-clause-ok : goal.returns-clause-ok
returns-clause-ok g c =
    let P : List (ℤ × ℤ) → Type 0 = λ L. IsRunsOf (replaced L c.span-start.result.0 c.span-start.result.1 c.rests-below.result.0 c.rests-below.result.1) (Without (Covers L) (IsBetween c.args.interval)) in
    let runs = subst P c.as_runs-runs.ensures.same c.rests-below.ensures.rest in
    on_ok_weaker c.replace.result (λ e. subst (λ (N : List (ℤ × ℤ)). IsRunsOf N (Without (Covers c.args.self.now) (IsBetween c.args.interval))) (sym e) runs) c.replace.ensures.ok

pub returns-then-is_empty-clause-ok : goal.returns-then-is_empty-clause-ok
returns-then-is_empty-clause-ok g c =
    let none = c.is_empty.ensures.members.0 c.if-is_empty.true in
    record { maximal = c.as_runs-runs.ensures.runs.maximal; members = λ z. ((λ s. (s, none z)), λ s. s.0) }

pub replace-requires-clause-in_order : goal.replace-requires-clause-in_order
replace-requires-clause-in_order g c = c.span-start.ensures.in_order

pub replace-requires-clause-at_most : goal.replace-requires-clause-at_most
replace-requires-clause-at_most g c = c.span-start.ensures.at_most

pub replace-requires-clause-two : goal.replace-requires-clause-two
replace-requires-clause-two g c = λ run e. let apart = c.if-start-end.false in let le = c.span-start.ensures.in_order in omega arith

pub returns-clause-err : goal.returns-clause-err
returns-clause-err g c = c.replace.ensures.err

pub returns-clause-empty : goal.returns-clause-empty
returns-clause-empty g c = λ none. absurd (none c.args.interval.0 (lower_end c.args.interval (not_crossed c.args.interval (untrue _ c.if-is_empty.false c.is_empty.ensures.crossed))))

pub returns-clause-in_place : goal.returns-clause-in_place
returns-clause-in_place g c =
    let apart = c.if-start-end.false in
    let le = c.span-start.ensures.in_order in
    let P : List (ℤ × ℤ) → Type 0 = λ L. IsSubset (IsBetween (widened c.args.interval)) (Covers L) in
    ok_unless_split c.replace.result c.rests-below.result.0 c.rests-below.result.1 c.span-start.result.0 c.span-start.result.1 (P c.args.self.now) (omega arith)
    c.replace.ensures.in_place c.replace.ensures.in_place_above c.replace.ensures.in_place_of_two (λ x y one low high. subst P c.as_runs-runs.ensures.same (c.rests-below.ensures.split x y one low high))
