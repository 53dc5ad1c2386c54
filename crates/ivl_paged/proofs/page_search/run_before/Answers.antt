use Rattle.std.proofs.Common.{◌≡◌, ℕ, ℤ, List, drop, subst, arith}
use Rattle.ivl_laws.proofs.Adding.{untrue}
use Rattle.ivl_places.specs.Places.{StartAbove}
use Rattle.ivl_paged.proofs.PageSearch.{not_covered, not_covered_above, run_is_with}
use Rattle.ivl_paged.proofs.page_search.run_before.Goals as goal

pub returns-then-place-eq0-clause-none : goal.returns-then-place-eq0-clause-none
returns-then-place-eq0-clause-none g c = λ none most s a.
    let v = g.B.Width.value c.args.value in
    let L : List (ℤ × ℤ) = c.args.runs.now in
    let is = c.if-place-eq0.true in
    let e : c.args.place ≡ 0 = omega (arith, is) in
    not_covered_above v L (subst (λ (n : ℕ). StartAbove v (drop n L)) e a)

pub returns-then-contains-clause-held : goal.returns-then-contains-clause-held
returns-then-contains-clause-held g c =
    let some = c.if-place-eq0.false in
    let most = c.if-runs-place.false in
    run_is_with (g.B.Width.value c.args.value) c.args.runs.now c.args.place c.index-runs-place.result c.requires (omega (arith, some)) (omega (arith, most)) c.index-runs-place.is
    (c.contains.ensures.0 c.if-contains.true)

pub returns-else-contains-clause-none : goal.returns-else-contains-clause-none
returns-else-contains-clause-none g c = λ none most s a.
    let some = c.if-place-eq0.false in
    not_covered (g.B.Width.value c.args.value) c.args.runs.now c.args.place c.index-runs-place.result c.requires (omega (arith, some)) most c.index-runs-place.is
    (untrue _ c.if-contains.false c.contains.ensures) s a
