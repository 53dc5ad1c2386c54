use Rattle.std.proofs.Common.{⊎_elim, List, ℤ, ap, arith, length, set, subst, sym, drop, ◌+◌, ◌∙◌, rules, ◌≡◌, ◌↔◌, IsTrue}
use Rattle.ivl_laws.specs.Sets.{HasSome, Intersection, IsBetween, Union}
use Rattle.ivl_laws.specs.Runs.{Covers, IsRunsOf}
use Rattle.ivl_places.specs.Edits.{widened}
use Rattle.ivl_places.proofs.Windows.{one_more_at_most}
use Rattle.ivl_paged.specs.Pages.{flattened}
use Rattle.ivl_paged.proofs.Bounding.{bounded_grown, bounds_there, longest_bounded}
use Rattle.ivl_paged.proofs.Counting.{err_is_not_ok, kept_after, lent_within}
use Rattle.ivl_paged.proofs.Heads.{lent_page}
use Rattle.ivl_paged.proofs.Widening.{none_more}
use Rattle.std.proofs.lemmas.List.{drop-set-add, length-set, set-get_or}
use Rattle.ivl_paged.proofs.Rests.{head_place, item_of_rest, page_place}
use Rattle.ivl_paged.proofs.Totals.{page_set}
use Rattle.ivl_paged.proofs.page_list.PageList.insert_into.Goals as goal

pub index_mut-requires : goal.index_mut-requires
index_mut-requires g c =
    let page = page_place g.B.Width.value c.self.inside.heads.items c.self.inside.pages.items c.args.self.now c.self.inside.gone c.args.i c.self.invariant.0.0 c.self.view_is c.requires.less in
    let head = head_place g.B.Width.value c.self.inside.heads.items c.self.inside.pages.items c.args.self.now c.self.inside.gone c.args.i c.self.invariant.0.0 c.self.view_is c.requires.less in
    omega (arith, page, head)

pub overflow_sub-others : goal.overflow_sub-others
overflow_sub-others g c = lent_within g.B.Width.value (drop c.self.inside.gone c.self.inside.heads.items) (drop c.self.inside.gone c.self.inside.pages.items) c.args.self.now c.index_mut-page.result.now c.args.i c.self.inside.count _ c.self.invariant.0 c.self.view_is c.requires.less (item_of_rest c.self.inside.pages.items c.self.inside.gone c.args.i c.index_mut-page.result.now c.index_mut-page.ensures.value) c.interval_count.ensures.count

pub overflow_add-self : goal.overflow_add-self
overflow_add-self g c =
    let within = lent_within g.B.Width.value (drop c.self.inside.gone c.self.inside.heads.items) (drop c.self.inside.gone c.self.inside.pages.items) c.args.self.now c.index_mut-page.result.now c.args.i c.self.inside.count _ c.self.invariant.0 c.self.view_is c.requires.less (item_of_rest c.self.inside.pages.items c.self.inside.gone c.args.i c.index_mut-page.result.now c.index_mut-page.ensures.value) c.interval_count.ensures.count in
    let view = ap (λ (Q : List (List (ℤ × ℤ))). length (flattened Q)) c.self.view_is in
    let L = c.index_mut-page.result.now in
    let made = c.in_ok-was_member.ensures.ok in
    let page = lent_page (drop c.self.inside.gone c.self.inside.pages.items) c.args.self.now L c.args.i c.self.view_is c.requires.less (item_of_rest c.self.inside.pages.items c.self.inside.gone c.args.i c.index_mut-page.result.now c.index_mut-page.ensures.value) in
    let ranges = c.self.ranges in
    ⊎_elim
    (λ room. let most = one_more_at_most L c.insert_interval.new.self c.args.interval (length L) made (omega arith) in
    omega (arith, within, view, most, c.interval_count.ensures.count, c.interval_count-2.ensures.count, c.self.invariant.0.1, room))
    (λ touched. let most = none_more L c.insert_interval.new.self c.args.interval c.interval_count.ensures.runs c.requires.filled made (subst (λ (M : List (ℤ × ℤ)). HasSome (Intersection (Covers M) (IsBetween (widened c.args.interval)))) (sym page) touched) in
    omega (arith, within, most, c.interval_count.ensures.count, c.interval_count-2.ensures.count, ranges))
    c.requires.room

pub invariant_of-self-2 : goal.invariant_of-self-2
invariant_of-self-2 g c =
    let L = c.insert_interval.new.self in
    let n = length-set c.self.inside.pages.items (c.self.inside.gone + c.args.i) L in
    let m = length-set c.self.inside.heads.items (c.self.inside.gone + c.args.i) c.head.result in
    let low = c.self.invariant.2 in
    let high = c.self.invariant.3 in
    rw (drop-set-add c.self.inside.gone c.self.inside.pages.items c.args.i L, drop-set-add c.self.inside.gone c.self.inside.heads.items c.args.i c.head.result) (
      kept_after g.B.Width.value (drop c.self.inside.gone c.self.inside.heads.items) (drop c.self.inside.gone c.self.inside.pages.items) c.args.self.now c.index_mut-page.result.now c.args.i c.self.inside.count _ c.self.invariant.0 c.self.view_is c.requires.less (item_of_rest c.self.inside.pages.items c.self.inside.gone c.args.i c.index_mut-page.result.now c.index_mut-page.ensures.value) c.interval_count.ensures.count
          c.insert_interval.new.self c.head.result _ c.head.ensures c.interval_count-2.ensures.count,
      bounded_grown c.self.inside.longests c.raise.new.self (drop c.self.inside.gone c.self.inside.pages.items) c.args.i (g.B.Output.SizeNumber.size c.longest-after.result) c.insert_interval.new.self c.self.invariant.1 c.raise.ensures.others c.longest-after.ensures c.raise.ensures.here,
      omega (arith, m, low),
      omega (arith, n, high),
      c.change.ensures c.self.inside.pages.items (set c.self.inside.pages.items (c.self.inside.gone + c.args.i) L) c.self.invariant.4 (page_set c.self.inside.pages.items c.index_mut-page.result.now L (c.self.inside.gone + c.args.i) _ _ (page_place g.B.Width.value c.self.inside.heads.items c.self.inside.pages.items c.args.self.now c.self.inside.gone c.args.i c.self.invariant.0.0 c.self.view_is c.requires.less) c.index_mut-page.ensures.value c.member_count-members.ensures c.member_count.ensures),
    )

pub returns-clause-ok : goal.returns-clause-ok
returns-clause-ok g c =
    let page = lent_page (drop c.self.inside.gone c.self.inside.pages.items) c.args.self.now c.index_mut-page.result.now c.args.i c.self.view_is c.requires.less (item_of_rest c.self.inside.pages.items c.self.inside.gone c.args.i c.index_mut-page.result.now c.index_mut-page.ensures.value) in (
      c.insert_interval.new.self,
      drop-set-add c.self.inside.gone c.self.inside.pages.items c.args.i c.insert_interval.new.self ∙ ap (λ (Q : List (List (ℤ × ℤ))). set Q c.args.i c.insert_interval.new.self) c.self.view_is,
      subst (λ (L : List (ℤ × ℤ)). IsRunsOf c.insert_interval.new.self (Union (Covers L) (IsBetween c.args.interval))) page c.in_ok-was_member.ensures.ok,
    )

pub returns-in_err-was_member-clause-in_place : goal.returns-in_err-was_member-clause-in_place
returns-in_err-was_member-clause-in_place g c = λ n.
    let page = lent_page (drop c.self.inside.gone c.self.inside.pages.items) c.args.self.now c.index_mut-page.result.now c.args.i c.self.view_is c.requires.less (item_of_rest c.self.inside.pages.items c.self.inside.gone c.args.i c.index_mut-page.result.now c.index_mut-page.ensures.value) in
    absurd (err_is_not_ok c.insert_interval.result _ c.in_err-was_member.was
    (c.insert_interval.ensures.in_place (subst (λ (L : List (ℤ × ℤ)). HasSome (Intersection (Covers L) (IsBetween (widened c.args.interval)))) (sym page) n)))

pub raise-requires-clause-less : goal.raise-requires-clause-less
raise-requires-clause-less g c = bounds_there c.self.inside.longests (drop c.self.inside.gone c.self.inside.pages.items) c.args.self.now c.args.i c.self.invariant.1 c.self.view_is c.requires.less

pub raise-requires-clause-bounded : goal.raise-requires-clause-bounded
raise-requires-clause-bounded g c = longest_bounded c.self.inside.longests (drop c.self.inside.gone c.self.inside.pages.items) c.args.self.now c.args.i (g.B.Output.SizeNumber.size c.longest-before.result) c.index_mut-page.result.now c.self.invariant.1 c.self.view_is c.requires.less (item_of_rest c.self.inside.pages.items c.self.inside.gone c.args.i c.index_mut-page.result.now c.index_mut-page.ensures.value) c.longest-before.ensures

pub returns-in_err-was_member-clause-err : goal.returns-in_err-was_member-clause-err
returns-in_err-was_member-clause-err g c =
    let P = drop c.self.inside.gone c.self.inside.pages.items in
    let kept : drop c.self.inside.gone (set c.self.inside.pages.items (c.self.inside.gone + c.args.i) c.insert_interval.new.self) ≡ c.args.self.now =
    drop-set-add c.self.inside.gone c.self.inside.pages.items c.args.i c.insert_interval.new.self ∙ ap (λ L. set P c.args.i L) (c.in_err-was_member.ensures.err ∙ (item_of_rest c.self.inside.pages.items c.self.inside.gone c.args.i c.index_mut-page.result.now c.index_mut-page.ensures.value)) ∙ set-get_or P c.args.i c.index_mut-page.result.now ∙ c.self.view_is in
    search rules

pub returns-clause-was_member : goal.returns-clause-was_member
returns-clause-was_member g c =
    let page = lent_page (drop c.self.inside.gone c.self.inside.pages.items) c.args.self.now c.index_mut-page.result.now c.args.i c.self.view_is c.requires.less (item_of_rest c.self.inside.pages.items c.self.inside.gone c.args.i c.index_mut-page.result.now c.index_mut-page.ensures.value) in
    subst (λ (L : List (ℤ × ℤ)). IsTrue c.in_ok-was_member.was_member ↔ Covers L c.args.interval.0) page c.in_ok-was_member.ensures.was_member

pub change-requires : goal.change-requires
change-requires g c =
    let page = page_place g.B.Width.value c.self.inside.heads.items c.self.inside.pages.items c.args.self.now c.self.inside.gone c.args.i c.self.invariant.0.0 c.self.view_is c.requires.less in
    let most = c.self.invariant.4.enough in
    omega (arith, page, most)
