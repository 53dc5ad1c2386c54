use Rattle.std.proofs.Common.{◌≡◌, ◌∙◌, ◌-◌, [], get_or, refl, sym, subst, ℤ, List, arith}
use Rattle.std.proofs.lemmas.List.{get_or_default}
use Rattle.ivl_laws.specs.Sets.{HasSome}
use Rattle.ivl_laws.specs.Runs.{Covers}
use Rattle.ivl_places.specs.Neighbours.{IsGreatest, IsLeast}
use Rattle.ivl_paged.proofs.Reading.{greatest_seen, hull_of_none, hull_seen, least_seen, none_seen, range_seen}
use Rattle.ivl_paged.proofs.paged_set.PagedSet.hull.Goals as goal

pub returns-then-count-eq0 : goal.returns-then-count-eq0
returns-then-count-eq0 g c =
    hull_of_none c.args.self.now c.empty.result c.empty.ensures.crossed (none_seen c.self.inside.pages c.args.self.now c.self.invariant.maximal c.self.view_is (omega (arith, c.len-count.ensures.value, c.if-count-eq0.true)))

pub upper-requires : goal.upper-requires
upper-requires g c = subst (λ (L : List (ℤ × ℤ)). HasSome (Covers L)) (sym c.set.ensures.same) c.set.ensures.some

pub new-requires : goal.new-requires
new-requires g c =
    let P = c.self.inside.pages in
    let some = c.if-count-eq0.false in
    let count = c.len-count.ensures.value in
    let last : c.page.result.now ≡ get_or P (c.len-count.result - 1) [] = c.page.ensures ∙ get_or_default P (c.len-count.result - 1) _ [] (omega arith) in
    let low : IsLeast (g.B.Width.value c.head-lower.result) (Covers c.args.self.now) = least_seen P c.args.self.now c.self.invariant.maximal c.self.view_is (get_or P 0 []) (g.B.Width.value c.head-lower.result) refl c.head-lower.ensures in
    let high : IsGreatest (g.B.Width.value c.upper.result) (Covers c.args.self.now) = greatest_seen P c.args.self.now c.self.invariant.maximal c.self.view_is c.set.result.now (g.B.Width.value c.upper.result) (c.len-count.result - 1) (omega arith) (c.set.ensures.same ∙ last) (c.upper.ensures.member, c.upper.ensures.greatest) in
    let a = range_seen P c.args.self.now c.self.invariant.maximal c.self.view_is g.B.Width.whole (g.B.Width.value c.head-lower.result) c.self.invariant low.0 in
    let b = range_seen P c.args.self.now c.self.invariant.maximal c.self.view_is g.B.Width.whole (g.B.Width.value c.upper.result) c.self.invariant high.0 in
    (a.0, b.1)

pub returns : goal.returns
returns g c =
    let P = c.self.inside.pages in
    let some = c.if-count-eq0.false in
    let count = c.len-count.ensures.value in
    let last : c.page.result.now ≡ get_or P (c.len-count.result - 1) [] = c.page.ensures ∙ get_or_default P (c.len-count.result - 1) _ [] (omega arith) in
    let low : IsLeast (g.B.Width.value c.head-lower.result) (Covers c.args.self.now) = least_seen P c.args.self.now c.self.invariant.maximal c.self.view_is (get_or P 0 []) (g.B.Width.value c.head-lower.result) refl c.head-lower.ensures in
    let high : IsGreatest (g.B.Width.value c.upper.result) (Covers c.args.self.now) = greatest_seen P c.args.self.now c.self.invariant.maximal c.self.view_is c.set.result.now (g.B.Width.value c.upper.result) (c.len-count.result - 1) (omega arith) (c.set.ensures.same ∙ last) (c.upper.ensures.member, c.upper.ensures.greatest) in
    hull_seen c.args.self.now c.new.result _ _ c.new.ensures.value low high
