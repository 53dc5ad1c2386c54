use Rattle.std.proofs.Common.{◌≡◌, ◌∙◌, ◌-◌, [], get_or, sym, subst, ℤ, List, arith}
use Rattle.std.proofs.lemmas.List.{get_or_default}
use Rattle.ivl_laws.specs.Sets.{HasSome}
use Rattle.ivl_laws.specs.Runs.{Covers}
use Rattle.ivl_paged.proofs.Reading.{greatest_seen, none_seen, range_seen}
use Rattle.ivl_paged.proofs.paged_set.PagedSet.last.Goals as goal

pub returns-then-count-eq0-clause-greatest : goal.returns-then-count-eq0-clause-greatest
returns-then-count-eq0-clause-greatest g c = none_seen c.self.inside.pages c.args.self.now c.self.invariant.maximal c.self.view_is (omega (arith, c.len-count.ensures.value, c.if-count-eq0.true))

pub upper-requires : goal.upper-requires
upper-requires g c = subst (λ (L : List (ℤ × ℤ)). HasSome (Covers L)) (sym c.set.ensures.same) c.set.ensures.some

pub returns-clause-greatest : goal.returns-clause-greatest
returns-clause-greatest g c =
    let P = c.self.inside.pages in
    let some = c.if-count-eq0.false in
    let count = c.len-count.ensures.value in
    let page : c.page.result.now ≡ get_or P (c.len-count.result - 1) [] = c.page.ensures ∙ get_or_default P (c.len-count.result - 1) _ [] (omega arith) in
    greatest_seen P c.args.self.now c.self.invariant.maximal c.self.view_is c.set.result.now (g.B.Width.value c.upper.result) (c.len-count.result - 1) (omega arith) (c.set.ensures.same ∙ page) (c.upper.ensures.member, c.upper.ensures.greatest)

pub returns-clause-in_range : goal.returns-clause-in_range
returns-clause-in_range g c =
    range_seen c.self.inside.pages c.args.self.now c.self.invariant.maximal c.self.view_is g.B.Width.whole (g.B.Width.value c.upper.result) c.self.invariant (returns-clause-greatest g c).0
