use Rattle.std.proofs.Common.{ℕ, sym, ◌≡◌, ◌+◌, ◌-◌, ◌≤◌, List, ℤ, ap, arith, drop, length, length-drop, take, ◌++◌, ◌∙◌, length-append, length-take, subst}
use Rattle.std.specs.List.{remove_range}
use Rattle.std.proofs.lemmas.List.{take-append-drop}
use Rattle.ivl_paged.specs.Pages.{flattened}
use Rattle.ivl_paged.specs.Sizes.{AreSizes}
use Rattle.ivl_paged.proofs.Bounding.{bounded_as, bounded_less}
use Rattle.ivl_paged.proofs.Counting.{length_inside, length_outside}
use Rattle.ivl_paged.proofs.Heads.{heads_length, heads_without}
use Rattle.ivl_paged.proofs.Rests.{gone_without, rest_without}
use Rattle.ivl_paged.proofs.Totals.{kept_cut}
use Rattle.ivl_paged.proofs.page_list.PageList.take_out.Goals as goal

pub runs_beside-self-inside-requires : goal.runs_beside-self-inside-requires
runs_beside-self-inside-requires g c =
    let P = drop c.self.inside.gone c.self.inside.pages.items in
    let parts = length_inside P c.args.start c.args.end c.requires.in_order in
    let part = ap (λ (Q : List (List (ℤ × ℤ))). length (flattened (take (c.args.end - c.args.start) (drop c.args.start Q)))) c.rest.ensures in
    omega (arith, parts, part, c.self.invariant.0.1)

pub drain-requires-clause-in_bounds : goal.drain-requires-clause-in_bounds
drain-requires-clause-in_bounds g c =
    let same = heads_length g.B.Width.value (drop c.self.inside.gone c.self.inside.heads.items) (drop c.self.inside.gone c.self.inside.pages.items) c.self.invariant.0.0 in
    let view = ap (λ (Q : List (List (ℤ × ℤ))). length Q) c.self.view_is in
    let heads = length-drop c.self.inside.gone c.self.inside.heads.items in
    let pages = length-drop c.self.inside.gone c.self.inside.pages.items in
    let low = c.self.invariant.2 in
    let high = c.self.invariant.3 in
    omega (arith, same, view, heads, pages, low, high, c.requires.at_most)

pub invariant_of-self : goal.invariant_of-self
invariant_of-self g c =
    let P = drop c.self.inside.gone c.self.inside.pages.items in
    let o = c.requires.in_order in
    let same = heads_length g.B.Width.value (drop c.self.inside.gone c.self.inside.heads.items) P c.self.invariant.0.0 in
    let view = ap (λ (Q : List (List (ℤ × ℤ))). length Q) c.self.view_is in
    let heads = length-drop c.self.inside.gone c.self.inside.heads.items in
    let pages = length-drop c.self.inside.gone c.self.inside.pages.items in
    let low = c.self.invariant.2 in
    let high = c.self.invariant.3 in
    let in_heads : c.self.inside.gone + c.args.start ≤ length c.self.inside.heads.items = omega (arith, same, view, heads, pages, low, high, o, c.requires.at_most) in
    let in_pages : c.self.inside.gone + c.args.start ≤ length c.self.inside.pages.items = omega (arith, same, view, heads, pages, low, high, o, c.requires.at_most) in
    let parts = length_inside P c.args.start c.args.end o in
    let part = ap (λ (Q : List (List (ℤ × ℤ))). length (flattened (take (c.args.end - c.args.start) (drop c.args.start Q)))) c.rest.ensures in
    let outside : length (flattened (remove_range P c.args.start c.args.end)) ≡ length (flattened (take c.args.start P)) + length (flattened (drop c.args.end P)) = length_outside P c.args.start c.args.end in
    rw (c.drop.ensures.items, c.drain.ensures.kept, c.drop-2.ensures.items, c.drain-2.ensures.kept, rest_without c.self.inside.heads.items c.self.inside.gone c.args.start c.args.end in_heads, rest_without c.self.inside.pages.items c.self.inside.gone c.args.start c.args.end in_pages) (
      (heads_without g.B.Width.value (drop c.self.inside.gone c.self.inside.heads.items) P c.args.start c.args.end c.self.invariant.0.0, omega (arith, parts, part, outside, c.runs_beside-self-inside.ensures, c.self.invariant.0.1)),
      bounded_as c.read_beside.new.self (remove_range P c.args.start c.args.end) c.rest-2.result.now (c.rest-2.ensures ∙ ap (λ (Q : List (List (ℤ × ℤ))). drop c.self.inside.gone Q) (c.drop-2.ensures.items ∙ c.drain-2.ensures.kept) ∙ rest_without c.self.inside.pages.items c.self.inside.gone c.args.start c.args.end in_pages) c.read_beside.ensures,
      gone_without c.self.inside.heads.items c.self.inside.gone c.args.start (c.self.inside.gone + c.args.end) in_heads,
      gone_without c.self.inside.pages.items c.self.inside.gone c.args.start (c.self.inside.gone + c.args.end) in_pages,
      subst (λ (Q : List (List (ℤ × ℤ))). AreSizes c.read_from.new.sizes.items Q) (c.as_slice.ensures.value ∙ c.drop-2.ensures.items ∙ c.drain-2.ensures.kept) c.read_from.ensures,
    )

pub read_beside-requires : goal.read_beside-requires
read_beside-requires g c =
    let view = ap (λ (Q : List (List (ℤ × ℤ))). length Q) c.self.view_is in
    let pages = length-drop c.self.inside.gone c.self.inside.pages.items in
    let high = c.self.invariant.3 in
    let o = c.requires.in_order in
    bounded_less c.self.inside.longests c.take_out.new.self (drop c.self.inside.gone c.self.inside.pages.items) c.rest-2.result.now c.args.start c.args.end c.self.invariant.1 c.take_out.ensures
    (c.rest-2.ensures ∙ ap (λ (Q : List (List (ℤ × ℤ))). drop c.self.inside.gone Q) (c.drop-2.ensures.items ∙ c.drain-2.ensures.kept) ∙ rest_without c.self.inside.pages.items c.self.inside.gone c.args.start c.args.end (omega (arith, view, pages, high, o, c.requires.at_most)))

pub returns : goal.returns
returns g c =
    let view = ap (λ (Q : List (List (ℤ × ℤ))). length Q) c.self.view_is in
    let pages = length-drop c.self.inside.gone c.self.inside.pages.items in
    let high = c.self.invariant.3 in
    let o = c.requires.in_order in
    ap (λ (Q : List (List (ℤ × ℤ))). drop c.self.inside.gone Q) (c.drop-2.ensures.items ∙ c.drain-2.ensures.kept) ∙ rest_without c.self.inside.pages.items c.self.inside.gone c.args.start c.args.end (omega (arith, view, pages, high, o, c.requires.at_most))
    ∙ ap (λ (Q : List (List (ℤ × ℤ))). take c.args.start Q ++ drop c.args.end Q) c.self.view_is

pub read_from-requires : goal.read_from-requires
read_from-requires g c =
    let P = c.self.inside.pages.items in
    let start = c.self.inside.gone + c.args.start in
    let end = c.self.inside.gone + c.args.end in
    let view = ap (λ (Q : List (List (ℤ × ℤ))). length Q) c.self.view_is in
    let pages = length-drop c.self.inside.gone P in
    let gone = c.self.invariant.3 in
    let o = c.requires.in_order in
    let there : end ≤ length P = omega (arith, view, pages, gone, o, c.requires.at_most) in
    let made = c.as_slice.ensures.value ∙ c.drop-2.ensures.items ∙ c.drain-2.ensures.kept in
    record {
      room =
          let all = ap length made in
          let both = length-append (take start P) (drop end P) in
          let low = length-take start P in
          let high = length-drop end P in
          let most = c.self.invariant.4.enough in
          omega (arith, all, both, low, high, most, there, o);
      kept = (P, c.self.invariant.4, kept_cut P (drop end P) c.as_slice.result.now start (omega (arith, there, o)) made);
    }

pub returns-then-start-end : goal.returns-then-start-end
returns-then-start-end g c = sym (ap (λ (n : ℕ). take c.args.start c.args.self.now ++ drop n c.args.self.now) (sym c.if-start-end.true) ∙ take-append-drop c.args.start c.args.self.now)
