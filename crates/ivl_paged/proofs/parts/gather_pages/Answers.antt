use Rattle.std.proofs.Common.{◌≡◌, ◌∙◌, ◌+◌, ◌-◌, [], List, ℤ, ap, drop, subst, sym, take, take_all}
use Rattle.ivl_laws.specs.Sets.{Intersection, IsBetween}
use Rattle.ivl_laws.specs.Runs.{Covers, IsMaximal, IsRunsOf}
use Rattle.ivl_laws.proofs.Ranges.{IsRunsOf-none}
use Rattle.ivl_laws.proofs.SetLaws.{IsRunsOf-same}
use Rattle.ivl_paged.specs.Pages.{StartsUpTo, flattened}
use Rattle.ivl_paged.proofs.Combining.{gathered_members, gathered_more}
use Rattle.ivl_paged.proofs.Paging.{IsMaximal-dropped, IsMaximal-taken}
use Rattle.ivl_paged.proofs.parts.gather_pages.Goals as goal

pub loop-page-init : goal.loop-page-init
loop-page-init g c = subst (λ (L : List (ℤ × ℤ)). IsRunsOf L (Intersection (Covers []) (IsBetween c.args.window.now))) (sym c.clear.ensures.items) (IsRunsOf-none _ (λ z h. absurd h.0))

pub loop-page-preserved : goal.loop-page-preserved
loop-page-preserved g c =
    let p : ℤ × ℤ = c.args.window.now in
    let i = c.saturating_sub-start.result in
    let n = c.starts_up_to-end.result - i in
    let Q = c.as_slice.result.now in
    let P = take n (drop i Q) in
    let k = c.loop-page.page-index in
    let (K, e, part) = c.in_ok-push_part.ensures in
    let ascend : IsMaximal (flattened P) = IsMaximal-taken (drop i Q) n (IsMaximal-dropped Q i (subst (λ (R : List (List (ℤ × ℤ))). IsMaximal (flattened R)) (sym c.as_slice.ensures.value) c.requires.runs.maximal)) in
    subst (λ (L : List (ℤ × ℤ)). IsRunsOf L (Intersection (Covers (flattened (take (k + 1) P))) (IsBetween p))) (sym e)
    (gathered_more P k c.loop-page.list.items K c.page-item.result (IsBetween p) ascend c.loop-page-test.true c.page-item.is c.loop-page.invariant part)

pub returns : goal.returns
returns g c =
    let P = c.args.pages.now in
    let p : ℤ × ℤ = c.args.window.now in
    let i = c.saturating_sub-start.result in
    let n = c.starts_up_to-end.result - i in
    let low = subst (λ (v : ℤ). StartsUpTo P v c.starts_up_to.result) c.lower_bound.ensures c.starts_up_to.ensures in
    let high = subst (λ (v : ℤ). StartsUpTo P v c.starts_up_to-end.result) c.upper_bound.ensures c.starts_up_to-end.ensures in
    let all : flattened (take c.loop-page.page-index (take n (drop i c.as_slice.result.now))) ≡ flattened (take n (drop i P)) =
    ap flattened (take_all c.loop-page.page-index (take n (drop i c.as_slice.result.now)) c.loop-page-test.false) ∙ ap (λ (Q : List (List (ℤ × ℤ))). flattened (take n (drop i Q))) c.as_slice.ensures.value in
    IsRunsOf-same _ _ c.loop-page.list.items
    (gathered_members g.B.Width.whole P p c.starts_up_to.result c.starts_up_to-end.result i c.requires.runs c.requires.filled low high c.saturating_sub-start.ensures)
    (subst (λ (L : List (ℤ × ℤ)). IsRunsOf c.loop-page.list.items (Intersection (Covers L) (IsBetween p))) all c.loop-page.invariant)
