use Rattle.std.proofs.Common.{◌∙◌, ◌-◌, ◌++◌, List, ℤ, ap, drop, length, subst, sym, take}
use Rattle.ivl_laws.proofs.Slices.{from_place}
use Rattle.ivl_laws.specs.Sets.{Intersection, SameMembers, Union}
use Rattle.ivl_laws.specs.Runs.{Covers, IsMaximal}
use Rattle.ivl_laws.proofs.Places.{IsMaximal-drop}
use Rattle.ivl_within.specs.Within.{SumsBy}
use Rattle.ivl_within.proofs.Stretches.{results_seen}
use Rattle.ivl_within.proofs.within.moved.results_by_moving.Goals as goal

pub push_common-requires-clause-runs : goal.push_common-requires-clause-runs
push_common-requires-clause-runs g c =
    let R = c.as_slice-runs.result.now in
    let maximal = subst IsMaximal (sym (c.as_slice-runs.ensures.value ∙ c.iter.ensures.rest)) c.iter.ensures.runs.maximal in
    subst IsMaximal (sym (from_place R c.count_within-kept.result)) (IsMaximal-drop R c.count_within-kept.result maximal)

pub returns : goal.returns
returns g c =
    let R = c.as_slice-runs.result.now in
    let L = c.as_slice-left.result.now in
    let M = c.as_slice-right.result.now in
    let n = c.count_within-kept.result in
    let S = SumsBy c.args.op (Covers L) (Covers M) in
    let new = c.push_common.new.entries.items in
    let P : List (ℤ × ℤ) → List (ℤ × ℤ) → Type 0 = λ kept rest. SameMembers (Covers new) (Union (Covers kept) (Intersection (Covers rest) S)) in
    let added : P (take n R) (drop n R) = subst (P (take n R)) (from_place R n) (subst (λ kept. P kept (take (length R - n) (drop n R))) (c.in_ok-extend_from_slice.ensures.items ∙ ap (λ (old : List (ℤ × ℤ)). old ++ take n R) c.in_ok-entries.ensures.items) c.in_ok-push_common.ensures) in
    results_seen c.args.op R L M c.args.x.now c.args.a.now c.args.b.now new c.in_ok-coalesce.field-0 n
    (c.as_slice-runs.ensures.value ∙ c.iter.ensures.rest) (c.as_slice-left.ensures.value ∙ c.iter-2.ensures.rest) (c.as_slice-right.ensures.value ∙ c.iter-3.ensures.rest)
    c.count_within-kept.ensures.within added c.in_ok-coalesce.ensures
