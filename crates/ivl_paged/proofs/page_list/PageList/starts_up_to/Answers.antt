use Rattle.std.proofs.Common.{rules, ◌≡◌, ◌∙◌, ◌+◌, ◌-◌, ◌/◌, ◌<◌, arith, ℤ, List, ap, get_or, length, refl, subst, sym, drop}
use Rattle.std.proofs.lemmas.Int.{ints}
use Rattle.ivl_laws.specs.Families.{set_at}
use Rattle.ivl_laws.proofs.Orders.{le_number, lt_number}
use Rattle.ivl_places.specs.Neighbours.{IsLeast}
use Rattle.ivl_paged.proofs.Heads.{chosen_up_to, head_at, heads_length}
use Rattle.ivl_paged.proofs.Paging.{search_begins, search_goes}
use Rattle.ivl_paged.proofs.page_list.PageList.starts_up_to.Goals as goal

pub search-init : goal.search-init
search-init g c =
    let same = heads_length g.B.Width.value (drop c.self.inside.gone c.self.inside.heads.items) (drop c.self.inside.gone c.self.inside.pages.items) c.self.invariant.0.0 in
    let view = ap (λ (Q : List (List (ℤ × ℤ))). length Q) c.self.view_is in
    let heads = ap length c.rest-heads.ensures in
    (search_begins c.args.self.now (g.B.Width.value c.args.value) (length c.rest-heads.result.now) (omega (arith, same, view, heads)), omega (arith, same, view, heads), omega (arith, ints))

pub search-preserved : goal.search-preserved
search-preserved g c =
    let P = c.args.self.now in
    let v = g.B.Width.value c.args.value in
    let left = c.search.left in
    let half = left - left / 2 in
    let m = c.search.first + half - 1 in
    let inv = c.search.invariant.0 in
    let some : 0 < left = search rules in
    let view = ap (λ (Q : List (List (ℤ × ℤ))). length Q) c.self.view_is in
    let less : m < length (drop c.self.inside.gone c.self.inside.pages.items) = let most = inv.at_most in omega (arith, some, most, view) in
    let head : c.index-heads-first.result ≡ get_or (drop c.self.inside.gone c.self.inside.heads.items) m c.index-heads-first.result = c.index-heads-first.is ∙ ap (λ H. get_or H m c.index-heads-first.result) c.rest-heads.ensures in
    let there = subst (λ (Q : List (List (ℤ × ℤ))). IsLeast (g.B.Width.value (get_or (drop c.self.inside.gone c.self.inside.heads.items) m c.index-heads-first.result)) (set_at Q m)) c.self.view_is
    (head_at g.B.Width.value (drop c.self.inside.gone c.self.inside.heads.items) (drop c.self.inside.gone c.self.inside.pages.items) m c.index-heads-first.result c.self.invariant.0.0 less) in
    let here = subst (λ x. IsLeast (g.B.Width.value x) (set_at P m)) (sym head) there in (
      search_goes P v (g.B.Width.value c.index-heads-first.result) c.search.first left half c.select_unpredictable-first.result m c.le-is_up_to.result
          c.requires inv (omega (arith, some)) (omega arith) (omega arith) (omega arith) refl here
          (le_number g.met.B.Width.ordered _ _ _ c.le-is_up_to.ensures) c.select_unpredictable-first.ensures,
      c.search.invariant.1,
      chosen_up_to g.B.Width.value (g.B.Width.value c.args.value) c.index-heads-first.result c.search.last c.select_unpredictable-last.result c.le-is_up_to.result (le_number g.met.B.Width.ordered _ _ _ c.le-is_up_to.ensures).0 c.search.invariant.2 c.select_unpredictable-last.ensures,
    )

pub returns-then-lt : goal.returns-then-lt
returns-then-lt g c =
    let lt = (lt_number g.met.B.Width.ordered _ _ _ c.lt.ensures).0 c.if-lt.true in
    let le = c.search.invariant.2 in
    absurd (omega (arith, ints, lt, le))
