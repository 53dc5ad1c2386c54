use Rattle.std.proofs.Common.{◌≡◌, ◌+◌, ◌<◌, suc, List, ℤ, ap, arith, drop, length, subst, sym, ◌∙◌, ◌++◌, take, length-append, length-take, length-drop}
use Rattle.ivl_paged.specs.Pages.{flattened}
use Rattle.ivl_paged.specs.Sizes.{AreSizes}
use Rattle.ivl_paged.proofs.Bounding.{bounded_as, bounded_less}
use Rattle.ivl_paged.proofs.Counting.{length_outside, length_page, lent_within}
use Rattle.ivl_paged.proofs.Heads.{heads_without}
use Rattle.ivl_paged.proofs.Rests.{gone_without, head_place, item_of_rest, page_place, rest_removed}
use Rattle.ivl_paged.proofs.Totals.{kept_cut}
use Rattle.ivl_paged.proofs.page_list.PageList.remove.Goals as goal

pub index-requires : goal.index-requires
index-requires g c =
    let page = page_place g.B.Width.value c.self.inside.heads.items c.self.inside.pages.items c.args.self.now c.self.inside.gone c.args.i c.self.invariant.0.0 c.self.view_is c.requires in
    omega (arith, page)

pub remove-requires : goal.remove-requires
remove-requires g c =
    let head = head_place g.B.Width.value c.self.inside.heads.items c.self.inside.pages.items c.args.self.now c.self.inside.gone c.args.i c.self.invariant.0.0 c.self.view_is c.requires in
    omega (arith, head)

pub overflow_sub-self : goal.overflow_sub-self
overflow_sub-self g c = lent_within g.B.Width.value (drop c.self.inside.gone c.self.inside.heads.items) (drop c.self.inside.gone c.self.inside.pages.items) c.args.self.now c.index.result.now c.args.i c.self.inside.count _ c.self.invariant.0 c.self.view_is c.requires (item_of_rest c.self.inside.pages.items c.self.inside.gone c.args.i c.index.result.now c.index.ensures) c.interval_count.ensures.count

pub invariant_of-self : goal.invariant_of-self
invariant_of-self g c =
    let P = drop c.self.inside.gone c.self.inside.pages.items in
    let i = c.args.i in
    let less : i < length P = subst (λ (Q : List (List (ℤ × ℤ))). i < length Q) (sym c.self.view_is) c.requires in
    let page = page_place g.B.Width.value c.self.inside.heads.items c.self.inside.pages.items c.args.self.now c.self.inside.gone i c.self.invariant.0.0 c.self.view_is c.requires in
    let head = head_place g.B.Width.value c.self.inside.heads.items c.self.inside.pages.items c.args.self.now c.self.inside.gone i c.self.invariant.0.0 c.self.view_is c.requires in
    let all = length_page P c.index.result.now c.index.result.now i less (item_of_rest c.self.inside.pages.items c.self.inside.gone i c.index.result.now c.index.ensures) in
    let next : i + 1 ≡ suc i = omega arith in
    let after = ap (λ n. length (flattened (drop n P))) next in
    let outside = length_outside P i (i + 1) in
    rw (c.remove.ensures.by_index.2, c.remove-2.ensures.by_index.2, rest_removed c.self.inside.heads.items c.self.inside.gone i (omega (arith, head)), rest_removed c.self.inside.pages.items c.self.inside.gone i (omega (arith, page))) (
      (heads_without g.B.Width.value (drop c.self.inside.gone c.self.inside.heads.items) P i (i + 1) c.self.invariant.0.0, omega (arith, all, after, outside, c.interval_count.ensures.count, c.self.invariant.0.1)),
      bounded_as c.read_beside.new.self (take i P ++ drop (i + 1) P) c.rest.result.now (c.rest.ensures ∙ ap (λ (Q : List (List (ℤ × ℤ))). drop c.self.inside.gone Q) c.remove-2.ensures.by_index.2 ∙ rest_removed c.self.inside.pages.items c.self.inside.gone i (omega (arith, page))) c.read_beside.ensures,
      gone_without c.self.inside.heads.items c.self.inside.gone i (c.self.inside.gone + i + 1) (omega (arith, head)),
      gone_without c.self.inside.pages.items c.self.inside.gone i (c.self.inside.gone + i + 1) (omega (arith, page)),
      subst (λ (Q : List (List (ℤ × ℤ))). AreSizes c.read_from.new.sizes.items Q) (c.as_slice.ensures.value ∙ c.remove-2.ensures.by_index.2) c.read_from.ensures,
    )

pub read_beside-requires : goal.read_beside-requires
read_beside-requires g c =
    let page = page_place g.B.Width.value c.self.inside.heads.items c.self.inside.pages.items c.args.self.now c.self.inside.gone c.args.i c.self.invariant.0.0 c.self.view_is c.requires in
    bounded_less c.self.inside.longests c.take_out.new.self (drop c.self.inside.gone c.self.inside.pages.items) c.rest.result.now c.args.i (c.args.i + 1) c.self.invariant.1 c.take_out.ensures
    (c.rest.ensures ∙ ap (λ (Q : List (List (ℤ × ℤ))). drop c.self.inside.gone Q) c.remove-2.ensures.by_index.2 ∙ rest_removed c.self.inside.pages.items c.self.inside.gone c.args.i (omega (arith, page)))

pub returns : goal.returns
returns g c =
    let page = page_place g.B.Width.value c.self.inside.heads.items c.self.inside.pages.items c.args.self.now c.self.inside.gone c.args.i c.self.invariant.0.0 c.self.view_is c.requires in
    ap (λ (Q : List (List (ℤ × ℤ))). drop c.self.inside.gone Q) c.remove-2.ensures.by_index.2 ∙ rest_removed c.self.inside.pages.items c.self.inside.gone c.args.i (omega (arith, page))
    ∙ ap (λ (Q : List (List (ℤ × ℤ))). take c.args.i Q ++ drop (c.args.i + 1) Q) c.self.view_is

pub read_from-requires : goal.read_from-requires
read_from-requires g c =
    let P = c.self.inside.pages.items in
    let place = c.self.inside.gone + c.args.i in
    let page = page_place g.B.Width.value c.self.inside.heads.items c.self.inside.pages.items c.args.self.now c.self.inside.gone c.args.i c.self.invariant.0.0 c.self.view_is c.requires in
    let made = c.as_slice.ensures.value ∙ c.remove-2.ensures.by_index.2 in
    record {
      room =
          let all = ap length made in
          let both = length-append (take place P) (drop (place + 1) P) in
          let low = length-take place P in
          let high = length-drop (place + 1) P in
          let most = c.self.invariant.4.enough in
          omega (arith, all, both, low, high, most, page);
      kept = (P, c.self.invariant.4, kept_cut P (drop (place + 1) P) c.as_slice.result.now place (omega (arith, page)) made);
    }
