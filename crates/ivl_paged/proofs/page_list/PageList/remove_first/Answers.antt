use Rattle.std.proofs.Common.{◌<◌, List, ℤ, ap, arith, drop, length, subst, sym, ◌∙◌}
use Rattle.std.proofs.lemmas.List.{drop-drop}
use Rattle.ivl_paged.proofs.Bounding.{bounded_as, bounded_less}
use Rattle.ivl_paged.proofs.Counting.{length_outside, length_page, lent_within}
use Rattle.ivl_paged.proofs.Heads.{heads_drop}
use Rattle.ivl_paged.proofs.Rests.{first_of_rest, head_place, page_place}
use Rattle.ivl_paged.proofs.page_list.PageList.remove_first.Goals as goal

pub index-requires : goal.index-requires
index-requires g c =
    let page = page_place g.B.Width.value c.self.inside.heads.items c.self.inside.pages.items c.args.self.now c.self.inside.gone 0 c.self.invariant.0.0 c.self.view_is c.requires in
    omega (arith, page)

pub overflow_sub-self : goal.overflow_sub-self
overflow_sub-self g c = lent_within g.B.Width.value (drop c.self.inside.gone c.self.inside.heads.items) (drop c.self.inside.gone c.self.inside.pages.items) c.args.self.now c.index.result.now 0 c.self.inside.count _ c.self.invariant.0 c.self.view_is c.requires (first_of_rest c.self.inside.pages.items c.self.inside.gone c.index.result.now c.index.ensures) c.interval_count.ensures.count

pub overflow_add-self : goal.overflow_add-self
overflow_add-self g c =
    let page = page_place g.B.Width.value c.self.inside.heads.items c.self.inside.pages.items c.args.self.now c.self.inside.gone 0 c.self.invariant.0.0 c.self.view_is c.requires in
    omega (arith, page)

pub rest-requires : goal.rest-requires
rest-requires g c =
    let page = page_place g.B.Width.value c.self.inside.heads.items c.self.inside.pages.items c.args.self.now c.self.inside.gone 0 c.self.invariant.0.0 c.self.view_is c.requires in
    omega (arith, page)

pub read_beside-requires : goal.read_beside-requires
read_beside-requires g c =
    bounded_less c.self.inside.longests c.take_out.new.self (drop c.self.inside.gone c.self.inside.pages.items) c.rest.result.now 0 1 c.self.invariant.1 c.take_out.ensures
    (c.rest.ensures ∙ sym (drop-drop 1 c.self.inside.gone c.self.inside.pages.items))

pub invariant_of-self : goal.invariant_of-self
invariant_of-self g c =
    let P = drop c.self.inside.gone c.self.inside.pages.items in
    let less : 0 < length P = subst (λ (Q : List (List (ℤ × ℤ))). 0 < length Q) (sym c.self.view_is) c.requires in
    let page = page_place g.B.Width.value c.self.inside.heads.items c.self.inside.pages.items c.args.self.now c.self.inside.gone 0 c.self.invariant.0.0 c.self.view_is c.requires in
    let head = head_place g.B.Width.value c.self.inside.heads.items c.self.inside.pages.items c.args.self.now c.self.inside.gone 0 c.self.invariant.0.0 c.self.view_is c.requires in
    let all = length_page P c.index.result.now c.index.result.now 0 less (first_of_rest c.self.inside.pages.items c.self.inside.gone c.index.result.now c.index.ensures) in
    let outside = length_outside P 0 1 in
    rw (sym (drop-drop 1 c.self.inside.gone c.self.inside.pages.items), sym (drop-drop 1 c.self.inside.gone c.self.inside.heads.items)) (
      (heads_drop g.B.Width.value (drop c.self.inside.gone c.self.inside.heads.items) P 1 c.self.invariant.0.0, omega (arith, all, outside, c.interval_count.ensures.count, c.self.invariant.0.1)),
      bounded_as c.read_beside.new.self (drop 1 P) c.rest.result.now (c.rest.ensures ∙ sym (drop-drop 1 c.self.inside.gone c.self.inside.pages.items)) c.read_beside.ensures,
      omega (arith, head),
      omega (arith, page),
      c.self.invariant.4,
    )

pub returns : goal.returns
returns g c = c.move_together.ensures ∙ sym (drop-drop 1 c.self.inside.gone c.self.inside.pages.items) ∙ ap (λ (Q : List (List (ℤ × ℤ))). drop 1 Q) c.self.view_is
