use Rattle.std.proofs.Common.{◌≡◌, ◌∙◌, ◌+◌, ◌-◌, ◌∷◌, [], List, ℤ, arith, get_or, inl, length, subst, sym}
use Rattle.std.specs.Prelude.{pos, ◌+ℤ◌, ◌≤ℤ◌}
use Rattle.std.proofs.lemmas.Int.{ints}
use Rattle.std.proofs.lemmas.List.{get_or_default}
use Rattle.ivl_laws.specs.Runs.{Covers}
use Rattle.ivl_laws.proofs.Orders.{lt_number}
use Rattle.ivl_places.specs.Neighbours.{IsGreatest}
use Rattle.ivl_paged.proofs.Combining.{apart_from_last}
use Rattle.ivl_paged.proofs.Paging.{covers_page}
use Rattle.ivl_paged.proofs.combine.touching_run.Goals as goal

pub sub_in_range-requires : goal.sub_in_range-requires
sub_in_range-requires g c =
    let P = c.args.pages.now in
    let K = c.args.piece.now in
    let run : ℤ × ℤ = c.in_ok-run.run'.now in
    let rest : List (ℤ × ℤ) = c.in_ok-run.field-0-1.now in
    let n = c.len-count.result - 1 in
    let at : n + 1 ≡ length P = omega (arith, c.len-count.ensures.value, c.if-count-eq0.false) in
    let page : c.set.result.now ≡ get_or P n [] = c.set.ensures.same ∙ c.page.ensures ∙ get_or_default P n _ [] (omega (arith, at)) in
    let first : K ≡ run ∷ rest = c.in_ok-run.ensures.cases.0 in
    let v = g.B.Width.value in
    let there : Covers K (v c.lower.result) = subst (λ (L : List (ℤ × ℤ)). Covers L (v c.lower.result)) (sym first) (inl c.lower.ensures.member) in
    let below : (v c.upper-last.result +ℤ pos 1) ≤ℤ v c.lower.result =
    c.requires.above _ _ (covers_page P n _ (subst (λ (L : List (ℤ × ℤ)). Covers L (v c.upper-last.result)) page c.upper-last.ensures.member)) there in
    let low = c.upper-last.ensures.in_range.0 in
    let high = c.lower.ensures.in_range.1 in
    let one = c.one.ensures in
    (omega (arith, ints, below, low, one), omega (arith, ints, high, one))

pub returns-then-lt : goal.returns-then-lt
returns-then-lt g c =
    let P = c.args.pages.now in
    let K = c.args.piece.now in
    let run : ℤ × ℤ = c.in_ok-run.run'.now in
    let rest : List (ℤ × ℤ) = c.in_ok-run.field-0-1.now in
    let n = c.len-count.result - 1 in
    let at : n + 1 ≡ length P = omega (arith, c.len-count.ensures.value, c.if-count-eq0.false) in
    let page : c.set.result.now ≡ get_or P n [] = c.set.ensures.same ∙ c.page.ensures ∙ get_or_default P n _ [] (omega (arith, at)) in
    let first : K ≡ run ∷ rest = c.in_ok-run.ensures.cases.0 in
    let v = g.B.Width.value in
    let last = v c.upper-last.result in
    let greatest : IsGreatest last (Covers c.set.result.now) = (c.upper-last.ensures.member, c.upper-last.ensures.greatest) in
    let lt = (lt_number g.met.B.Width.ordered _ _ _ c.lt.ensures).0 c.if-lt.true in
    let less = c.sub_in_range.ensures in
    let one = c.one.ensures in
    let value = c.lower.ensures.value in
    apart_from_last P K rest run n last c.requires.runs c.requires.piece at first
    (subst (λ (L : List (ℤ × ℤ)). IsGreatest last (Covers L)) page greatest) (omega (arith, ints, lt, less, one, value))
