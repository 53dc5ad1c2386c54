use Rattle.std.proofs.Common.{◌<◌, ◌^◌, List, ℤ, ap, arith, set, subst, sym, drop, ◌+◌, ◌∙◌}
use Rattle.std.proofs.lemmas.Int.{ints}
use Rattle.ivl_laws.specs.Sets.{HasSome, Only, Without}
use Rattle.ivl_laws.specs.Runs.{Covers, IsRunsOf}
use Rattle.ivl_places.specs.Neighbours.{IsLeast}
use Rattle.ivl_paged.proofs.Bounding.{bounded_as, bounded_shrunk, bounds_there}
use Rattle.ivl_paged.proofs.Counting.{kept_after, lent_within, no_more_runs}
use Rattle.ivl_paged.proofs.Heads.{lent_page}
use Rattle.ivl_paged.proofs.Removing.{least_is_cut, removed_alone}
use Rattle.std.proofs.lemmas.List.{drop-set-add, length-set}
use Rattle.ivl_paged.proofs.Rests.{head_place, item_of_rest, page_place}
use Rattle.ivl_paged.proofs.Totals.{page_set}
use Rattle.ivl_paged.proofs.page_list.PageList.pop_from.Goals as goal

pub pop_first-least-requires : goal.pop_first-least-requires
pop_first-least-requires g c =
    let page = lent_page (drop c.self.inside.gone c.self.inside.pages.items) c.args.self.now c.index_mut-page.result.now c.args.i c.self.view_is c.requires.less (item_of_rest c.self.inside.pages.items c.self.inside.gone c.args.i c.index_mut-page.result.now c.index_mut-page.ensures.value) in
    subst (λ (L : List (ℤ × ℤ)). (v : ℤ) → IsLeast v (Covers L) → HasSome (Without (Covers L) (Only v))) (sym page) c.requires.some

pub index_mut-requires : goal.index_mut-requires
index_mut-requires g c =
    let page = page_place g.B.Width.value c.self.inside.heads.items c.self.inside.pages.items c.args.self.now c.self.inside.gone c.args.i c.self.invariant.0.0 c.self.view_is c.requires.less in
    let head = head_place g.B.Width.value c.self.inside.heads.items c.self.inside.pages.items c.args.self.now c.self.inside.gone c.args.i c.self.invariant.0.0 c.self.view_is c.requires.less in
    omega (arith, page, head)

pub overflow_sub-others : goal.overflow_sub-others
overflow_sub-others g c = lent_within g.B.Width.value (drop c.self.inside.gone c.self.inside.heads.items) (drop c.self.inside.gone c.self.inside.pages.items) c.args.self.now c.index_mut-page.result.now c.args.i c.self.inside.count _ c.self.invariant.0 c.self.view_is c.requires.less (item_of_rest c.self.inside.pages.items c.self.inside.gone c.args.i c.index_mut-page.result.now c.index_mut-page.ensures.value) c.interval_count.ensures.count

pub overflow_add-self : goal.overflow_add-self
overflow_add-self g c =
    let v = g.B.Width.value c.pop_first-least.result in
    let L = c.index_mut-page.result.now in
    let M = c.pop_first-least.new.self in
    let fits : c.self.inside.count < 2 ^ 64 = omega (arith, c.self.ranges) in
    let within = lent_within g.B.Width.value (drop c.self.inside.gone c.self.inside.heads.items) (drop c.self.inside.gone c.self.inside.pages.items) c.args.self.now c.index_mut-page.result.now c.args.i c.self.inside.count _ c.self.invariant.0 c.self.view_is c.requires.less (item_of_rest c.self.inside.pages.items c.self.inside.gone c.args.i c.index_mut-page.result.now c.index_mut-page.ensures.value) c.interval_count.ensures.count in
    let most = no_more_runs L M (v, v) c.interval_count.ensures.runs (omega (arith, ints)) (least_is_cut (Covers L) v c.pop_first-least.ensures.least.1) (removed_alone (Covers L) M v c.pop_first-least.ensures.rest) in
    omega (arith, within, most, c.interval_count.ensures.count, c.interval_count-2.ensures.count, fits)

pub invariant_of-self : goal.invariant_of-self
invariant_of-self g c =
    let L = c.pop_first-least.new.self in
    let n = length-set c.self.inside.pages.items (c.self.inside.gone + c.args.i) L in
    let m = length-set c.self.inside.heads.items (c.self.inside.gone + c.args.i) c.head.result in
    let low = c.self.invariant.2 in
    let high = c.self.invariant.3 in
    rw (drop-set-add c.self.inside.gone c.self.inside.pages.items c.args.i L, drop-set-add c.self.inside.gone c.self.inside.heads.items c.args.i c.head.result) (
      kept_after g.B.Width.value (drop c.self.inside.gone c.self.inside.heads.items) (drop c.self.inside.gone c.self.inside.pages.items) c.args.self.now c.index_mut-page.result.now c.args.i c.self.inside.count _ c.self.invariant.0 c.self.view_is c.requires.less (item_of_rest c.self.inside.pages.items c.self.inside.gone c.args.i c.index_mut-page.result.now c.index_mut-page.ensures.value) c.interval_count.ensures.count
          c.pop_first-least.new.self c.head.result _ c.head.ensures c.interval_count-2.ensures.count,
      bounded_as c.lower.new.self (set (drop c.self.inside.gone c.self.inside.pages.items) c.args.i c.pop_first-least.new.self) c.rest.result.now (c.rest.ensures ∙ drop-set-add c.self.inside.gone c.self.inside.pages.items c.args.i c.pop_first-least.new.self) c.lower.ensures,
      omega (arith, m, low),
      omega (arith, n, high),
      c.change.ensures c.self.inside.pages.items (set c.self.inside.pages.items (c.self.inside.gone + c.args.i) L) c.self.invariant.4 (page_set c.self.inside.pages.items c.index_mut-page.result.now L (c.self.inside.gone + c.args.i) _ _ (page_place g.B.Width.value c.self.inside.heads.items c.self.inside.pages.items c.args.self.now c.self.inside.gone c.args.i c.self.invariant.0.0 c.self.view_is c.requires.less) c.index_mut-page.ensures.value c.member_count-members.ensures c.member_count.ensures),
    )

pub returns-clause-least : goal.returns-clause-least
returns-clause-least g c =
    let page = lent_page (drop c.self.inside.gone c.self.inside.pages.items) c.args.self.now c.index_mut-page.result.now c.args.i c.self.view_is c.requires.less (item_of_rest c.self.inside.pages.items c.self.inside.gone c.args.i c.index_mut-page.result.now c.index_mut-page.ensures.value) in
    subst (λ (L : List (ℤ × ℤ)). IsLeast (g.B.Width.value c.pop_first-least.result) (Covers L)) page c.pop_first-least.ensures.least

pub returns-clause-rest : goal.returns-clause-rest
returns-clause-rest g c =
    let page = lent_page (drop c.self.inside.gone c.self.inside.pages.items) c.args.self.now c.index_mut-page.result.now c.args.i c.self.view_is c.requires.less (item_of_rest c.self.inside.pages.items c.self.inside.gone c.args.i c.index_mut-page.result.now c.index_mut-page.ensures.value) in (
      c.pop_first-least.new.self,
      drop-set-add c.self.inside.gone c.self.inside.pages.items c.args.i c.pop_first-least.new.self ∙ ap (λ (Q : List (List (ℤ × ℤ))). set Q c.args.i c.pop_first-least.new.self) c.self.view_is,
      subst (λ (L : List (ℤ × ℤ)). IsRunsOf c.pop_first-least.new.self (Without (Covers L) (Only (g.B.Width.value c.pop_first-least.result)))) page c.pop_first-least.ensures.rest,
    )

pub lower-requires-clause-less : goal.lower-requires-clause-less
lower-requires-clause-less g c = bounds_there c.self.inside.longests (drop c.self.inside.gone c.self.inside.pages.items) c.args.self.now c.args.i c.self.invariant.1 c.self.view_is c.requires.less

pub lower-requires-clause-bounded : goal.lower-requires-clause-bounded
lower-requires-clause-bounded g c =
    bounded_shrunk c.self.inside.longests (drop c.self.inside.gone c.self.inside.pages.items) c.args.self.now c.rest.result.now c.args.i c.index_mut-page.result.now c.pop_first-least.new.self c.self.invariant.1 c.self.view_is c.requires.less (item_of_rest c.self.inside.pages.items c.self.inside.gone c.args.i c.index_mut-page.result.now c.index_mut-page.ensures.value)
    (λ z m. ((c.pop_first-least.ensures.rest.members z).0 m).0) (c.rest.ensures ∙ drop-set-add c.self.inside.gone c.self.inside.pages.items c.args.i c.pop_first-least.new.self)

pub change-requires : goal.change-requires
change-requires g c =
    let page = page_place g.B.Width.value c.self.inside.heads.items c.self.inside.pages.items c.args.self.now c.self.inside.gone c.args.i c.self.invariant.0.0 c.self.view_is c.requires.less in
    let most = c.self.invariant.4.enough in
    omega (arith, page, most)
