use Rattle.std.proofs.Common.{◌<◌, [], ℤ, List, arith, get_or, length, refl, subst, take}
use Rattle.ivl_laws.specs.Sets.{AtLeast, HasNone}
use Rattle.ivl_laws.specs.Runs.{Covers}
use Rattle.ivl_places.specs.Neighbours.{IsLeast}
use Rattle.ivl_paged.specs.Pages.{StartsUpTo, flattened}
use Rattle.ivl_paged.proofs.Reading.{next_seen_above, next_seen_below, no_next_seen}
use Rattle.ivl_paged.proofs.paged_set.PagedSet.next_from.Goals as goal

pub returns-in-Some : goal.returns-in-Some
returns-in-Some g c =
    let P = c.self.inside.pages in
    let v = g.B.Width.value c.args.v in
    let n = c.starts_up_to-count.result in
    let s : StartsUpTo P v n = c.starts_up_to-count.ensures in
    let x = g.B.Width.value c.in-Some.next in
    next_seen_below P c.args.self.now c.self.invariant.maximal c.self.view_is v x n s
    (subst (λ (N : List (List (ℤ × ℤ))). IsLeast x (AtLeast v (Covers (flattened (take n N))))) c.as_slice.ensures.value c.in-Some.ensures)

pub returns-then-count-len : goal.returns-then-count-len
returns-then-count-len g c =
    let P = c.self.inside.pages in
    let v = g.B.Width.value c.args.v in
    let n = c.starts_up_to-count.result in
    let s : StartsUpTo P v n = c.starts_up_to-count.ensures in
    let less : n < length P = omega (arith, c.len.ensures.value, c.if-count-len.true) in
    next_seen_above P c.args.self.now c.self.invariant.maximal c.self.view_is (get_or P n []) v (g.B.Width.value c.head.result) n s
    (subst (λ (N : List (List (ℤ × ℤ))). HasNone (AtLeast v (Covers (flattened (take n N))))) c.as_slice.ensures.value c.in-None.ensures) refl c.head.ensures

pub returns-else-count-len : goal.returns-else-count-len
returns-else-count-len g c =
    let P = c.self.inside.pages in
    let v = g.B.Width.value c.args.v in
    let n = c.starts_up_to-count.result in
    no_next_seen P c.args.self.now c.self.invariant.maximal c.self.view_is v n
    (subst (λ (N : List (List (ℤ × ℤ))). HasNone (AtLeast v (Covers (flattened (take n N))))) c.as_slice.ensures.value c.in-None.ensures) (omega (arith, c.len.ensures.value, c.if-count-len.false))
