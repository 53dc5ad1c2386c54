use Rattle.std.proofs.Common.{◌∙◌, ◌-◌, ◌++◌, List, ℤ, ap, arith, drop, length, subst, sym, take}
use Rattle.ivl_laws.proofs.Slices.{from_place}
use Rattle.ivl_laws.specs.Sets.{Intersection, SameMembers, Union}
use Rattle.ivl_laws.specs.Runs.{Covers, IsMaximal}
use Rattle.ivl_laws.proofs.Places.{IsMaximal-drop}
use Rattle.ivl_within.specs.Within.{SumsBy}
use Rattle.ivl_within.proofs.Stretches.{all_kept, fits_seen, results_seen}
use Rattle.ivl_within.proofs.within.fronts.results_by_fronts.Goals as goal

pub count_kept-kept-requires-clause-runs : goal.count_kept-kept-requires-clause-runs
count_kept-kept-requires-clause-runs g c = subst IsMaximal (sym (c.as_slice-runs.ensures.value ∙ c.iter.ensures.rest)) c.iter.ensures.runs.maximal

pub count_kept-kept-requires-clause-left : goal.count_kept-kept-requires-clause-left
count_kept-kept-requires-clause-left g c = subst IsMaximal (sym (c.as_slice-left.ensures.value ∙ c.iter-2.ensures.rest)) c.iter-2.ensures.runs.maximal

pub count_kept-kept-requires-clause-right : goal.count_kept-kept-requires-clause-right
count_kept-kept-requires-clause-right g c = subst IsMaximal (sym (c.as_slice-right.ensures.value ∙ c.iter-3.ensures.rest)) c.iter-3.ensures.runs.maximal

pub count_kept-kept-requires-clause-fits : goal.count_kept-kept-requires-clause-fits
count_kept-kept-requires-clause-fits g c =
    fits_seen c.args.op g.B.Width.whole c.as_slice-left.result.now c.as_slice-right.result.now c.args.a.now c.args.b.now (c.as_slice-left.ensures.value ∙ c.iter-2.ensures.rest) (c.as_slice-right.ensures.value ∙ c.iter-3.ensures.rest) c.requires.fits

pub push_all-requires-clause-left : goal.push_all-requires-clause-left
push_all-requires-clause-left g c = subst IsMaximal (sym (c.as_slice-left.ensures.value ∙ c.iter-2.ensures.rest)) c.iter-2.ensures.runs.maximal

pub push_all-requires-clause-right : goal.push_all-requires-clause-right
push_all-requires-clause-right g c = subst IsMaximal (sym (c.as_slice-right.ensures.value ∙ c.iter-3.ensures.rest)) c.iter-3.ensures.runs.maximal

pub push_all-requires-clause-fits : goal.push_all-requires-clause-fits
push_all-requires-clause-fits g c =
    fits_seen c.args.op g.B.Width.whole c.as_slice-left.result.now c.as_slice-right.result.now c.args.a.now c.args.b.now (c.as_slice-left.ensures.value ∙ c.iter-2.ensures.rest) (c.as_slice-right.ensures.value ∙ c.iter-3.ensures.rest) c.requires.fits

pub returns-then-kept-runs : goal.returns-then-kept-runs
returns-then-kept-runs g c =
    all_kept c.args.op c.as_slice-runs.result.now c.as_slice-left.result.now c.as_slice-right.result.now c.args.x.now c.args.a.now c.args.b.now c.count_kept-kept.result
    (c.as_slice-runs.ensures.value ∙ c.iter.ensures.rest) (c.as_slice-left.ensures.value ∙ c.iter-2.ensures.rest) (c.as_slice-right.ensures.value ∙ c.iter-3.ensures.rest)
    (omega (arith, c.if-kept-runs.true)) c.count_kept-kept.ensures.kept

pub push_all-requires-clause-runs : goal.push_all-requires-clause-runs
push_all-requires-clause-runs g c =
    let R = c.as_slice-runs.result.now in
    let maximal = subst IsMaximal (sym (c.as_slice-runs.ensures.value ∙ c.iter.ensures.rest)) c.iter.ensures.runs.maximal in
    subst IsMaximal (sym (from_place R c.count_kept-kept.result)) (IsMaximal-drop R c.count_kept-kept.result maximal)

pub returns : goal.returns
returns g c =
    let R = c.as_slice-runs.result.now in
    let L = c.as_slice-left.result.now in
    let M = c.as_slice-right.result.now in
    let n = c.count_kept-kept.result in
    let S = SumsBy c.args.op (Covers L) (Covers M) in
    let new = c.push_all.new.entries.items in
    let P : List (ℤ × ℤ) → List (ℤ × ℤ) → Type 0 = λ kept rest. SameMembers (Covers new) (Union (Covers kept) (Intersection (Covers rest) S)) in
    let added : P (take n R) (drop n R) = subst (P (take n R)) (from_place R n) (subst (λ kept. P kept (take (length R - n) (drop n R))) (c.in_ok-extend_from_slice.ensures.items ∙ ap (λ (old : List (ℤ × ℤ)). old ++ take n R) c.in_ok-entries.ensures.items) c.in_ok-push_all.ensures) in
    results_seen c.args.op R L M c.args.x.now c.args.a.now c.args.b.now new c.in_ok-coalesce.field-0 n
    (c.as_slice-runs.ensures.value ∙ c.iter.ensures.rest) (c.as_slice-left.ensures.value ∙ c.iter-2.ensures.rest) (c.as_slice-right.ensures.value ∙ c.iter-3.ensures.rest)
    c.count_kept-kept.ensures.kept added c.in_ok-coalesce.ensures
