use Rattle.std.proofs.Common.{◌∙◌, ◌-◌, ◌+◌, ◌≤◌, ◌<◌, ℕ, ℤ, List, drop, length, length-drop, length-take, refl, subst, sym, take, arith}
use Rattle.ivl_paged.specs.Longests.{AreBounded, HasLong, IsNextLong}
use Rattle.ivl_paged.proofs.Bounding.{bounded_length, long_in_part, none_long_at_all, none_long_in_part}
use Rattle.ivl_paged.proofs.page_list.PageList.next_with.Goals as goal

pub groups-init : goal.groups-init
groups-init g c = (omega arith, λ k a b. absurd (omega (arith, a, b)))

pub groups-preserved : goal.groups-preserved
groups-preserved g c =
    let P = c.rest-pages.result.now in
    let H = subst (λ (Q : List (List (ℤ × ℤ))). AreBounded c.self.inside.longests Q) (sym c.rest-pages.ensures) c.self.invariant.1 in
    let p = c.in-Some.ensures in
    let low = c.groups.invariant.0 in
    let on = p.on in (
      omega (arith, low, on),
      none_long_in_part c.self.inside.longests P c.args.from (g.B.Output.SizeNumber.size c.args.count) c.groups.place H low c.groups.invariant.1 (c.in-Some.start, c.in-Some.end)
          (take (c.in-Some.end - c.in-Some.start) (drop c.in-Some.start P)) p refl c.in_default-first_with.ensures,
    )

pub groups-smaller : goal.groups-smaller
groups-smaller g c =
    let P = c.rest-pages.result.now in
    let H = subst (λ (Q : List (List (ℤ × ℤ))). AreBounded c.self.inside.longests Q) (sym c.rest-pages.ensures) c.self.invariant.1 in
    let same = bounded_length c.self.inside.longests P H in
    let p = c.in-Some.ensures in
    let on = p.on in
    let most = p.at_most in
    omega (arith, same, on, most)

pub next_with-requires : goal.next_with-requires
next_with-requires g c =
    bounded_length c.self.inside.longests c.rest-pages.result.now (subst (λ (Q : List (List (ℤ × ℤ))). AreBounded c.self.inside.longests Q) (sym c.rest-pages.ensures) c.self.invariant.1)

pub offset_bounds-pages-start : goal.offset_bounds-pages-start
offset_bounds-pages-start g c =
    let P = c.rest-pages.result.now in
    let same = bounded_length c.self.inside.longests P (subst (λ (Q : List (List (ℤ × ℤ))). AreBounded c.self.inside.longests Q) (sym c.rest-pages.ensures) c.self.invariant.1) in
    let p = c.in-Some.ensures in
    let order = p.in_order in
    let most = p.at_most in
    omega (arith, same, order, most)

pub slice_bounds-first_with-end : goal.slice_bounds-first_with-end
slice_bounds-first_with-end g c =
    let P = c.rest-pages.result.now in
    let same = bounded_length c.self.inside.longests P (subst (λ (Q : List (List (ℤ × ℤ))). AreBounded c.self.inside.longests Q) (sym c.rest-pages.ensures) c.self.invariant.1) in
    let p = c.in-Some.ensures in
    let order = p.in_order in
    let most = p.at_most in
    let part = length-take (c.in-Some.end - c.in-Some.start) (drop c.in-Some.start P) in
    let rest = length-drop c.in-Some.start P in
    omega (arith, same, order, most, part, rest)

pub returns-in-Some-first_with : goal.returns-in-Some-first_with
returns-in-Some-first_with g c =
    let P = c.rest-pages.result.now in
    let n = g.B.Output.SizeNumber.size c.args.count in
    let H = subst (λ (Q : List (List (ℤ × ℤ))). AreBounded c.self.inside.longests Q) (sym c.rest-pages.ensures) c.self.invariant.1 in
    subst (λ (Q : List (List (ℤ × ℤ))). IsNextLong n Q c.args.from (c.in-Some.start + c.in-Some-first_with.i)) (c.rest-pages.ensures ∙ c.self.view_is)
    (long_in_part c.self.inside.longests P c.args.from n c.groups.place H c.groups.invariant.0 c.groups.invariant.1 (c.in-Some.start, c.in-Some.end)
    (take (c.in-Some.end - c.in-Some.start) (drop c.in-Some.start P)) c.in-Some-first_with.i c.in-Some.ensures refl c.in-Some-first_with.ensures)

pub returns : goal.returns
returns g c =
    let P = c.rest-pages.result.now in
    let n = g.B.Output.SizeNumber.size c.args.count in
    let H = subst (λ (Q : List (List (ℤ × ℤ))). AreBounded c.self.inside.longests Q) (sym c.rest-pages.ensures) c.self.invariant.1 in
    subst (λ (Q : List (List (ℤ × ℤ))). (k : ℕ) → c.args.from ≤ k → k < length Q → ¬ (HasLong n Q k)) (c.rest-pages.ensures ∙ c.self.view_is)
    (none_long_at_all c.self.inside.longests P c.args.from n c.groups.place H c.groups.invariant.0 c.groups.invariant.1 c.in_default.ensures)
