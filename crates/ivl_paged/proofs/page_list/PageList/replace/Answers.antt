use Rattle.std.proofs.Common.{◌∙◌, ◌++◌, List, ℤ, ap, arith, drop, length, length-append, set, take, ◌+◌}
use Rattle.ivl_paged.specs.Pages.{flattened}
use Rattle.ivl_paged.proofs.Bounding.{bounded_grown, bounds_there, longest_bounded}
use Rattle.ivl_paged.proofs.Counting.{count_after, kept_after, lent_within}
use Rattle.ivl_paged.proofs.Paging.{page_there, replace_pages}
use Rattle.std.proofs.lemmas.List.{drop-set-add}
use Rattle.ivl_paged.proofs.Rests.{gone_set, head_place, item_of_rest, page_place}
use Rattle.ivl_paged.proofs.Totals.{page_set}
use Rattle.ivl_paged.proofs.page_list.PageList.replace.Goals as goal

pub overflow_sub-others : goal.overflow_sub-others
overflow_sub-others g c =
    lent_within g.B.Width.value (drop c.self.inside.gone c.self.inside.heads.items) (drop c.self.inside.gone c.self.inside.pages.items) c.take_out.new.self c.index.result.now c.args.start c.self.inside.count _ c.self.invariant.0 c.self.view_is
    (page_there c.args.self.now c.take_out.new.self c.args.start c.args.end c.requires.in_order c.requires.at_most c.take_out.ensures) (item_of_rest c.self.inside.pages.items c.self.inside.gone c.args.start c.index.result.now c.index.ensures) c.interval_count.ensures.count

pub overflow_add-self : goal.overflow_add-self
overflow_add-self g c =
    let P = c.args.self.now in
    let A = flattened (take c.args.start P) in
    let D = flattened (drop c.args.end P) in
    let o = c.requires.in_order in
    let most = c.requires.at_most in
    let made = count_after g.B.Width.value (drop c.self.inside.gone c.self.inside.heads.items) (drop c.self.inside.gone c.self.inside.pages.items) c.take_out.new.self c.index.result.now c.args.start c.self.inside.count _ c.self.invariant.0 c.self.view_is
    (page_there c.args.self.now c.take_out.new.self c.args.start c.args.end c.requires.in_order c.requires.at_most c.take_out.ensures) (item_of_rest c.self.inside.pages.items c.self.inside.gone c.args.start c.index.result.now c.index.ensures) c.interval_count.ensures.count
    c.args.page _ c.interval_count-2.ensures.count in
    let all = ap length (ap (λ (Q : List (List (ℤ × ℤ))). flattened (set Q c.args.start c.args.page)) (c.self.view_is ∙ c.take_out.ensures) ∙ replace_pages P c.args.page c.args.start c.args.end (omega (arith, o, most))) in
    let a = length-append A (c.args.page ++ D) in
    let b = length-append c.args.page D in
    omega (arith, made, all, a, b, c.requires.fits)

pub index_mut-requires : goal.index_mut-requires
index_mut-requires g c =
    let there = page_there c.args.self.now c.take_out.new.self c.args.start c.args.end c.requires.in_order c.requires.at_most c.take_out.ensures in
    let head = head_place g.B.Width.value c.self.inside.heads.items c.self.inside.pages.items c.take_out.new.self c.self.inside.gone c.args.start c.self.invariant.0.0 c.self.view_is there in
    let page = page_place g.B.Width.value c.self.inside.heads.items c.self.inside.pages.items c.take_out.new.self c.self.inside.gone c.args.start c.self.invariant.0.0 c.self.view_is there in
    omega (arith, head, page)

pub invariant_of-self : goal.invariant_of-self
invariant_of-self g c =
    rw (drop-set-add c.self.inside.gone c.self.inside.pages.items c.args.start c.args.page, drop-set-add c.self.inside.gone c.self.inside.heads.items c.args.start c.head.result) (
      kept_after g.B.Width.value (drop c.self.inside.gone c.self.inside.heads.items) (drop c.self.inside.gone c.self.inside.pages.items) c.take_out.new.self c.index.result.now c.args.start c.self.inside.count _ c.self.invariant.0 c.self.view_is
          (page_there c.args.self.now c.take_out.new.self c.args.start c.args.end c.requires.in_order c.requires.at_most c.take_out.ensures) (item_of_rest c.self.inside.pages.items c.self.inside.gone c.args.start c.index.result.now c.index.ensures) c.interval_count.ensures.count
          c.args.page c.head.result _ c.head.ensures c.interval_count-2.ensures.count,
      bounded_grown c.self.inside.longests c.raise.new.self (drop c.self.inside.gone c.self.inside.pages.items) c.args.start (g.B.Output.SizeNumber.size c.longest-after.result) c.args.page c.self.invariant.1 c.raise.ensures.others c.longest-after.ensures c.raise.ensures.here,
      gone_set c.self.inside.heads.items c.self.inside.gone (c.self.inside.gone + c.args.start) c.head.result c.self.invariant.2,
      gone_set c.self.inside.pages.items c.self.inside.gone (c.self.inside.gone + c.args.start) c.args.page c.self.invariant.3,
      c.change.ensures c.self.inside.pages.items (set c.self.inside.pages.items (c.self.inside.gone + c.args.start) c.args.page) c.self.invariant.4 (page_set c.self.inside.pages.items c.index-3.result.now c.args.page (c.self.inside.gone + c.args.start) _ _ (page_place g.B.Width.value c.self.inside.heads.items c.self.inside.pages.items c.take_out.new.self c.self.inside.gone c.args.start c.self.invariant.0.0 c.self.view_is (page_there c.args.self.now c.take_out.new.self c.args.start c.args.end c.requires.in_order c.requires.at_most c.take_out.ensures)) c.index-3.ensures c.member_count-members.ensures c.member_count.ensures),
    )

pub returns : goal.returns
returns g c =
    let P = c.args.self.now in
    let o = c.requires.in_order in
    let most = c.requires.at_most in
    ap flattened (drop-set-add c.self.inside.gone c.self.inside.pages.items c.args.start c.args.page) ∙ ap (λ (Q : List (List (ℤ × ℤ))). flattened (set Q c.args.start c.args.page)) (c.self.view_is ∙ c.take_out.ensures) ∙ replace_pages P c.args.page c.args.start c.args.end (omega (arith, o, most))

pub raise-requires-clause-less : goal.raise-requires-clause-less
raise-requires-clause-less g c = bounds_there c.self.inside.longests (drop c.self.inside.gone c.self.inside.pages.items) c.take_out.new.self c.args.start c.self.invariant.1 c.self.view_is (page_there c.args.self.now c.take_out.new.self c.args.start c.args.end c.requires.in_order c.requires.at_most c.take_out.ensures)

pub raise-requires-clause-bounded : goal.raise-requires-clause-bounded
raise-requires-clause-bounded g c = longest_bounded c.self.inside.longests (drop c.self.inside.gone c.self.inside.pages.items) c.take_out.new.self c.args.start (g.B.Output.SizeNumber.size c.longest-before.result) _ c.self.invariant.1 c.self.view_is (page_there c.args.self.now c.take_out.new.self c.args.start c.args.end c.requires.in_order c.requires.at_most c.take_out.ensures) (item_of_rest c.self.inside.pages.items c.self.inside.gone c.args.start c.index-2.result.now c.index-2.ensures) c.longest-before.ensures

pub overflow_add-place : goal.overflow_add-place
overflow_add-place g c =
    let page = page_place g.B.Width.value c.self.inside.heads.items c.self.inside.pages.items c.take_out.new.self c.self.inside.gone c.args.start c.self.invariant.0.0 c.self.view_is (page_there c.args.self.now c.take_out.new.self c.args.start c.args.end c.requires.in_order c.requires.at_most c.take_out.ensures) in
    omega (arith, page, c.self.ranges)

pub index-requires : goal.index-requires
index-requires g c =
    let page = page_place g.B.Width.value c.self.inside.heads.items c.self.inside.pages.items c.take_out.new.self c.self.inside.gone c.args.start c.self.invariant.0.0 c.self.view_is (page_there c.args.self.now c.take_out.new.self c.args.start c.args.end c.requires.in_order c.requires.at_most c.take_out.ensures) in
    omega (arith, page)

pub index-requires-2 : goal.index-requires-2
index-requires-2 g c =
    let page = page_place g.B.Width.value c.self.inside.heads.items c.self.inside.pages.items c.take_out.new.self c.self.inside.gone c.args.start c.self.invariant.0.0 c.self.view_is (page_there c.args.self.now c.take_out.new.self c.args.start c.args.end c.requires.in_order c.requires.at_most c.take_out.ensures) in
    omega (arith, page)

pub index_mut-requires-2 : goal.index_mut-requires-2
index_mut-requires-2 g c =
    let page = page_place g.B.Width.value c.self.inside.heads.items c.self.inside.pages.items c.take_out.new.self c.self.inside.gone c.args.start c.self.invariant.0.0 c.self.view_is (page_there c.args.self.now c.take_out.new.self c.args.start c.args.end c.requires.in_order c.requires.at_most c.take_out.ensures) in
    omega (arith, page)

pub index-requires-3 : goal.index-requires-3
index-requires-3 g c =
    let page = page_place g.B.Width.value c.self.inside.heads.items c.self.inside.pages.items c.take_out.new.self c.self.inside.gone c.args.start c.self.invariant.0.0 c.self.view_is (page_there c.args.self.now c.take_out.new.self c.args.start c.args.end c.requires.in_order c.requires.at_most c.take_out.ensures) in
    omega (arith, page)

pub change-requires : goal.change-requires
change-requires g c =
    let page = page_place g.B.Width.value c.self.inside.heads.items c.self.inside.pages.items c.take_out.new.self c.self.inside.gone c.args.start c.self.invariant.0.0 c.self.view_is (page_there c.args.self.now c.take_out.new.self c.args.start c.args.end c.requires.in_order c.requires.at_most c.take_out.ensures) in
    let most = c.self.invariant.4.enough in
    omega (arith, page, most)
