use Rattle.std.proofs.lemmas.List.{set-get_or}
use Rattle.std.proofs.Common.{rules, ◌≡◌, ◌⊎◌, ◌<◌, ◌-◌, ◌^◌, ◌∙◌, List, ℤ, ap, arith, set, subst, sym, drop, ◌+◌}
use Rattle.ivl_laws.specs.Sets.{HasSome, IsBetween, IsSubset, Without}
use Rattle.ivl_laws.specs.Runs.{Covers, IsRunsOf}
use Rattle.ivl_places.specs.Edits.{widened}
use Rattle.ivl_paged.proofs.Bounding.{bounded_as, bounded_shrunk, bounds_there}
use Rattle.ivl_paged.proofs.Counting.{err_is_not_ok, fits_after_split, kept_after, lent_within}
use Rattle.ivl_paged.proofs.Heads.{lent_page}
use Rattle.std.proofs.lemmas.List.{drop-set-add, length-set}
use Rattle.ivl_paged.proofs.Rests.{head_place, item_of_rest, page_place}
use Rattle.ivl_paged.proofs.Totals.{page_set}
use Rattle.ivl_paged.proofs.page_list.PageList.remove_from.Goals as goal

pub index_mut-requires : goal.index_mut-requires
index_mut-requires g c =
    let page = page_place g.B.Width.value c.self.inside.heads.items c.self.inside.pages.items c.args.self.now c.self.inside.gone c.args.i c.self.invariant.0.0 c.self.view_is c.requires.less in
    let head = head_place g.B.Width.value c.self.inside.heads.items c.self.inside.pages.items c.args.self.now c.self.inside.gone c.args.i c.self.invariant.0.0 c.self.view_is c.requires.less in
    omega (arith, page, head)

pub overflow_sub-others : goal.overflow_sub-others
overflow_sub-others g c = lent_within g.B.Width.value (drop c.self.inside.gone c.self.inside.heads.items) (drop c.self.inside.gone c.self.inside.pages.items) c.args.self.now c.index_mut-page.result.now c.args.i c.self.inside.count _ c.self.invariant.0 c.self.view_is c.requires.less (item_of_rest c.self.inside.pages.items c.self.inside.gone c.args.i c.index_mut-page.result.now c.index_mut-page.ensures.value) c.interval_count.ensures.count

pub overflow_add-self : goal.overflow_add-self
overflow_add-self g c =
    let P = drop c.self.inside.gone c.self.inside.pages.items in
    let L = c.index_mut-page.result.now in
    let fits : c.self.inside.count < 2 ^ 64 = omega (arith, c.self.ranges) in
    let within = lent_within g.B.Width.value (drop c.self.inside.gone c.self.inside.heads.items) (drop c.self.inside.gone c.self.inside.pages.items) c.args.self.now c.index_mut-page.result.now c.args.i c.self.inside.count _ c.self.invariant.0 c.self.view_is c.requires.less (item_of_rest c.self.inside.pages.items c.self.inside.gone c.args.i c.index_mut-page.result.now c.index_mut-page.ensures.value) c.interval_count.ensures.count in
    let looked = lent_page P c.args.self.now c.index.result.now c.args.i c.self.view_is c.requires.less (item_of_rest c.self.inside.pages.items c.self.inside.gone c.args.i c.index.result.now c.index.ensures) in
    let page = lent_page P c.args.self.now L c.args.i c.self.view_is c.requires.less (item_of_rest c.self.inside.pages.items c.self.inside.gone c.args.i c.index_mut-page.result.now c.index_mut-page.ensures.value) in
    let counted = fits_after_split L c.remove_interval.new.self c.args.interval c.self.inside.count _ _ c.interval_count.ensures.runs c.requires.filled c.in_ok-was_member.ensures.ok c.interval_count.ensures.count c.interval_count-2.ensures.count within fits
    (subst (λ (N : List (ℤ × ℤ)). (c.self.inside.count < 2 ^ 64 - 1) ⊎ (¬ (IsSubset (IsBetween (widened c.args.interval)) (Covers N)))) (looked ∙ sym page) (c.is_split_uncounted.ensures.counted c.if-is_split_uncounted.false)) in
    omega (arith, counted)

pub returns-then-is_split_uncounted-clause-in_place : goal.returns-then-is_split_uncounted-clause-in_place
returns-then-is_split_uncounted-clause-in_place g c = λ n.
    let page = lent_page (drop c.self.inside.gone c.self.inside.pages.items) c.args.self.now c.index.result.now c.args.i c.self.view_is c.requires.less (item_of_rest c.self.inside.pages.items c.self.inside.gone c.args.i c.index.result.now c.index.ensures) in
    absurd (n (subst (λ (L : List (ℤ × ℤ)). IsSubset (IsBetween (widened c.args.interval)) (Covers L)) page (c.is_split_uncounted.ensures.split c.if-is_split_uncounted.true)))

pub invariant_of-self-2 : goal.invariant_of-self-2
invariant_of-self-2 g c =
    let L = c.remove_interval.new.self in
    let n = length-set c.self.inside.pages.items (c.self.inside.gone + c.args.i) L in
    let m = length-set c.self.inside.heads.items (c.self.inside.gone + c.args.i) c.head.result in
    let low = c.self.invariant.2 in
    let high = c.self.invariant.3 in
    rw (drop-set-add c.self.inside.gone c.self.inside.pages.items c.args.i L, drop-set-add c.self.inside.gone c.self.inside.heads.items c.args.i c.head.result) (
      kept_after g.B.Width.value (drop c.self.inside.gone c.self.inside.heads.items) (drop c.self.inside.gone c.self.inside.pages.items) c.args.self.now c.index_mut-page.result.now c.args.i c.self.inside.count _ c.self.invariant.0 c.self.view_is c.requires.less (item_of_rest c.self.inside.pages.items c.self.inside.gone c.args.i c.index_mut-page.result.now c.index_mut-page.ensures.value) c.interval_count.ensures.count
          c.remove_interval.new.self c.head.result _ c.head.ensures c.interval_count-2.ensures.count,
      bounded_as c.lower.new.self (set (drop c.self.inside.gone c.self.inside.pages.items) c.args.i c.remove_interval.new.self) c.rest.result.now (c.rest.ensures ∙ drop-set-add c.self.inside.gone c.self.inside.pages.items c.args.i c.remove_interval.new.self) c.lower.ensures,
      omega (arith, m, low),
      omega (arith, n, high),
      c.change.ensures c.self.inside.pages.items (set c.self.inside.pages.items (c.self.inside.gone + c.args.i) L) c.self.invariant.4 (page_set c.self.inside.pages.items c.index_mut-page.result.now L (c.self.inside.gone + c.args.i) _ _ (page_place g.B.Width.value c.self.inside.heads.items c.self.inside.pages.items c.args.self.now c.self.inside.gone c.args.i c.self.invariant.0.0 c.self.view_is c.requires.less) c.index_mut-page.ensures.value c.member_count-members.ensures c.member_count.ensures),
    )

pub returns-in_err-was_member-clause-err : goal.returns-in_err-was_member-clause-err
returns-in_err-was_member-clause-err g c =
    let P = drop c.self.inside.gone c.self.inside.pages.items in
    let kept : drop c.self.inside.gone (set c.self.inside.pages.items (c.self.inside.gone + c.args.i) c.remove_interval.new.self) ≡ c.args.self.now =
    drop-set-add c.self.inside.gone c.self.inside.pages.items c.args.i c.remove_interval.new.self ∙ ap (λ L. set P c.args.i L) (c.in_err-was_member.ensures.err ∙ (item_of_rest c.self.inside.pages.items c.self.inside.gone c.args.i c.index_mut-page.result.now c.index_mut-page.ensures.value)) ∙ set-get_or P c.args.i c.index_mut-page.result.now ∙ c.self.view_is in
    search rules

pub returns-clause-ok : goal.returns-clause-ok
returns-clause-ok g c =
    let page = lent_page (drop c.self.inside.gone c.self.inside.pages.items) c.args.self.now c.index_mut-page.result.now c.args.i c.self.view_is c.requires.less (item_of_rest c.self.inside.pages.items c.self.inside.gone c.args.i c.index_mut-page.result.now c.index_mut-page.ensures.value) in (
      c.remove_interval.new.self,
      drop-set-add c.self.inside.gone c.self.inside.pages.items c.args.i c.remove_interval.new.self ∙ ap (λ (Q : List (List (ℤ × ℤ))). set Q c.args.i c.remove_interval.new.self) c.self.view_is,
      subst (λ (L : List (ℤ × ℤ)). IsRunsOf c.remove_interval.new.self (Without (Covers L) (IsBetween c.args.interval))) page c.in_ok-was_member.ensures.ok,
    )

pub remove_interval-requires-clause-some : goal.remove_interval-requires-clause-some
remove_interval-requires-clause-some g c =
    let page = lent_page (drop c.self.inside.gone c.self.inside.pages.items) c.args.self.now c.index_mut-page.result.now c.args.i c.self.view_is c.requires.less (item_of_rest c.self.inside.pages.items c.self.inside.gone c.args.i c.index_mut-page.result.now c.index_mut-page.ensures.value) in
    subst (λ (L : List (ℤ × ℤ)). HasSome (Without (Covers L) (IsBetween c.args.interval))) (sym page) c.requires.some

pub returns-in_err-was_member-clause-in_place : goal.returns-in_err-was_member-clause-in_place
returns-in_err-was_member-clause-in_place g c = λ n.
    let page = lent_page (drop c.self.inside.gone c.self.inside.pages.items) c.args.self.now c.index_mut-page.result.now c.args.i c.self.view_is c.requires.less (item_of_rest c.self.inside.pages.items c.self.inside.gone c.args.i c.index_mut-page.result.now c.index_mut-page.ensures.value) in
    absurd (err_is_not_ok c.remove_interval.result _ c.in_err-was_member.was
    (c.remove_interval.ensures.in_place (subst (λ (L : List (ℤ × ℤ)). ¬ (IsSubset (IsBetween (widened c.args.interval)) (Covers L))) (sym page) n)))

pub lower-requires-clause-less : goal.lower-requires-clause-less
lower-requires-clause-less g c = bounds_there c.self.inside.longests (drop c.self.inside.gone c.self.inside.pages.items) c.args.self.now c.args.i c.self.invariant.1 c.self.view_is c.requires.less

pub lower-requires-clause-bounded : goal.lower-requires-clause-bounded
lower-requires-clause-bounded g c =
    bounded_shrunk c.self.inside.longests (drop c.self.inside.gone c.self.inside.pages.items) c.args.self.now c.rest.result.now c.args.i c.index_mut-page.result.now c.remove_interval.new.self c.self.invariant.1 c.self.view_is c.requires.less (item_of_rest c.self.inside.pages.items c.self.inside.gone c.args.i c.index_mut-page.result.now c.index_mut-page.ensures.value)
    (λ z m. ((c.in_ok-was_member.ensures.ok.members z).0 m).0) (c.rest.ensures ∙ drop-set-add c.self.inside.gone c.self.inside.pages.items c.args.i c.remove_interval.new.self)

pub change-requires : goal.change-requires
change-requires g c =
    let page = page_place g.B.Width.value c.self.inside.heads.items c.self.inside.pages.items c.args.self.now c.self.inside.gone c.args.i c.self.invariant.0.0 c.self.view_is c.requires.less in
    let most = c.self.invariant.4.enough in
    omega (arith, page, most)
