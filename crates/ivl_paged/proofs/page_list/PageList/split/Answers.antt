use Rattle.std.proofs.Common.{◌∙◌, ◌<◌, ◌+◌, [], List, ℤ, ap, arith, length, subst, sym, get_or, set, take, drop, ◌++◌, ◌∷◌, length-append, length-take, length-drop}
use Rattle.std.proofs.lemmas.List.{length-set}
use Rattle.ivl_paged.specs.Pages.{flattened}
use Rattle.ivl_paged.specs.Sizes.{AreSizes}
use Rattle.ivl_paged.proofs.Bounding.{bounded_as, bounded_length, bounded_split, bounds_there}
use Rattle.ivl_paged.proofs.Heads.{heads_insert, heads_set}
use Rattle.ivl_paged.proofs.Paging.{split_page}
use Rattle.ivl_paged.proofs.Rests.{gone_split, head_place, page_place, rest_split}
use Rattle.ivl_paged.proofs.Totals.{kept_split}
use Rattle.ivl_paged.proofs.page_list.PageList.split.Goals as goal

pub insert-requires : goal.insert-requires
insert-requires g c =
    let page = page_place g.B.Width.value c.self.inside.heads.items c.self.inside.pages.items c.args.self.now c.self.inside.gone c.args.i c.self.invariant.0.0 c.self.view_is c.requires.less in
    omega (arith, page, c.reserve.ensures.len)

pub insert-requires-2 : goal.insert-requires-2
insert-requires-2 g c =
    let head = head_place g.B.Width.value c.self.inside.heads.items c.self.inside.pages.items c.args.self.now c.self.inside.gone c.args.i c.self.invariant.0.0 c.self.view_is c.requires.less in
    omega (arith, head, c.reserve.ensures.len)

pub index_mut-requires : goal.index_mut-requires
index_mut-requires g c =
    let head = head_place g.B.Width.value c.self.inside.heads.items c.self.inside.pages.items c.args.self.now c.self.inside.gone c.args.i c.self.invariant.0.0 c.self.view_is c.requires.less in
    let more = rw c.unwrap.ensures at c.insert-2.ensures.len in
    omega (arith, head, more, c.reserve.ensures.len)

pub invariant_of-self-2 : goal.invariant_of-self-2
invariant_of-self-2 g c =
    let P = drop c.self.inside.gone c.self.inside.pages.items in
    let i = c.args.i in
    let less : i < length P = subst (λ (Q : List (List (ℤ × ℤ))). i < length Q) (sym c.self.view_is) c.requires.less in
    let parts = c.requires.parts ∙ ap (λ (Q : List (List (ℤ × ℤ))). get_or Q i []) (sym c.self.view_is) in
    let items = rw c.unwrap.ensures at c.insert-2.ensures.items in
    let page = page_place g.B.Width.value c.self.inside.heads.items c.self.inside.pages.items c.args.self.now c.self.inside.gone i c.self.invariant.0.0 c.self.view_is c.requires.less in
    let head = head_place g.B.Width.value c.self.inside.heads.items c.self.inside.pages.items c.args.self.now c.self.inside.gone i c.self.invariant.0.0 c.self.view_is c.requires.less in
    rw (items, c.in_ok-insert.ensures.items, c.reserve.ensures.items, rest_split c.self.inside.pages.items c.self.inside.gone i c.args.low c.args.high page, rest_split c.self.inside.heads.items c.self.inside.gone i c.head.result c.head-head.result head) (
      (
        heads_set g.B.Width.value _ _ i c.head.result c.args.low (heads_insert g.B.Width.value (drop c.self.inside.gone c.self.inside.heads.items) P (i + 1) c.head-head.result c.args.high c.self.invariant.0.0 c.head-head.ensures) c.head.ensures,
        c.self.invariant.0.1 ∙ sym (ap length (split_page P c.args.low c.args.high i less parts)),
      ),
      bounded_as c.settle.new.self (set (take (i + 1) P ++ c.args.high ∷ drop (i + 1) P) i c.args.low) c.rest.result.now (c.rest.ensures ∙ ap (λ (Q : List (List (ℤ × ℤ))). drop c.self.inside.gone (set Q (c.self.inside.gone + i) c.args.low)) c.in_ok-insert.ensures.items ∙ rest_split c.self.inside.pages.items c.self.inside.gone i c.args.low c.args.high page) c.settle.ensures,
      gone_split c.self.inside.heads.items c.self.inside.gone (c.self.inside.gone + (i + 1)) (c.self.inside.gone + i) c.head.result c.head-head.result c.self.invariant.2,
      gone_split c.self.inside.pages.items c.self.inside.gone (c.self.inside.gone + (i + 1)) (c.self.inside.gone + i) c.args.low c.args.high c.self.invariant.3,
      subst (λ (Q : List (List (ℤ × ℤ))). AreSizes c.read_from.new.sizes.items Q) (c.as_slice.ensures.value ∙ ap (λ (Q : List (List (ℤ × ℤ))). set Q (c.self.inside.gone + i) c.args.low) c.in_ok-insert.ensures.items) c.read_from.ensures,
    )

pub widen-is_divided-requires-clause-less : goal.widen-is_divided-requires-clause-less
widen-is_divided-requires-clause-less g c = bounds_there c.self.inside.longests (drop c.self.inside.gone c.self.inside.pages.items) c.args.self.now c.args.i c.self.invariant.1 c.self.view_is c.requires.less

pub widen-is_divided-requires-clause-fits : goal.widen-is_divided-requires-clause-fits
widen-is_divided-requires-clause-fits g c =
    let same = bounded_length c.self.inside.longests (drop c.self.inside.gone c.self.inside.pages.items) c.self.invariant.1 in
    let view = ap (λ (Q : List (List (ℤ × ℤ))). length Q) c.self.view_is in
    omega (arith, same, view, c.requires.fits)

pub settle-requires : goal.settle-requires
settle-requires g c =
    let P = drop c.self.inside.gone c.self.inside.pages.items in
    let i = c.args.i in
    let less : i < length P = subst (λ (Q : List (List (ℤ × ℤ))). i < length Q) (sym c.self.view_is) c.requires.less in
    let parts = c.requires.parts ∙ ap (λ (Q : List (List (ℤ × ℤ))). get_or Q i []) (sym c.self.view_is) in
    let page = page_place g.B.Width.value c.self.inside.heads.items c.self.inside.pages.items c.args.self.now c.self.inside.gone i c.self.invariant.0.0 c.self.view_is c.requires.less in
    bounded_split c.self.inside.longests c.widen-is_divided.new.self P c.rest.result.now i c.args.low c.args.high c.self.invariant.1 less parts c.widen-is_divided.ensures
    (c.rest.ensures ∙ ap (λ (Q : List (List (ℤ × ℤ))). drop c.self.inside.gone (set Q (c.self.inside.gone + i) c.args.low)) c.in_ok-insert.ensures.items ∙ rest_split c.self.inside.pages.items c.self.inside.gone i c.args.low c.args.high page)

pub returns : goal.returns
returns g c =
    let P = drop c.self.inside.gone c.self.inside.pages.items in
    let i = c.args.i in
    let less : i < length P = subst (λ (Q : List (List (ℤ × ℤ))). i < length Q) (sym c.self.view_is) c.requires.less in
    let parts = c.requires.parts ∙ ap (λ (Q : List (List (ℤ × ℤ))). get_or Q i []) (sym c.self.view_is) in
    let page = page_place g.B.Width.value c.self.inside.heads.items c.self.inside.pages.items c.args.self.now c.self.inside.gone i c.self.invariant.0.0 c.self.view_is c.requires.less in
    rw (c.in_ok-insert.ensures.items, rest_split c.self.inside.pages.items c.self.inside.gone i c.args.low c.args.high page) (split_page P c.args.low c.args.high i less parts ∙ ap flattened c.self.view_is)

pub make_room-requires : goal.make_room-requires
make_room-requires g c = let most = c.self.invariant.4.enough in omega (arith, most)

pub read_from-requires : goal.read_from-requires
read_from-requires g c =
    let P = c.self.inside.pages.items in
    let place = c.self.inside.gone + c.args.i in
    let page = page_place g.B.Width.value c.self.inside.heads.items c.self.inside.pages.items c.args.self.now c.self.inside.gone c.args.i c.self.invariant.0.0 c.self.view_is c.requires.less in
    let made = c.as_slice.ensures.value ∙ ap (λ (Q : List (List (ℤ × ℤ))). set Q place c.args.low) c.in_ok-insert.ensures.items in
    record {
      room =
          let all = ap length made in
          let n = length-set (take (c.self.inside.gone + (c.args.i + 1)) P ++ c.args.high ∷ drop (c.self.inside.gone + (c.args.i + 1)) P) place c.args.low in
          let both = length-append (take (c.self.inside.gone + (c.args.i + 1)) P) (c.args.high ∷ drop (c.self.inside.gone + (c.args.i + 1)) P) in
          let low = length-take (c.self.inside.gone + (c.args.i + 1)) P in
          let high = length-drop (c.self.inside.gone + (c.args.i + 1)) P in
          let most = c.in_ok-make_room.ensures.room in
          omega (arith, all, n, both, low, high, most, page);
      kept = (P, c.make_room.ensures.same P c.self.invariant.4, kept_split P c.as_slice.result.now place (c.self.inside.gone + (c.args.i + 1)) c.args.low c.args.high (omega arith) page made);
    }

pub invariant_of-self-in_err-make_room : goal.invariant_of-self-in_err-make_room
invariant_of-self-in_err-make_room g c = rw c.reserve.ensures.items (c.self.invariant.0, c.self.invariant.1, c.self.invariant.2, c.self.invariant.3, c.make_room.ensures.same c.self.inside.pages.items c.self.invariant.4)

pub invariant_of-self-in_err-insert : goal.invariant_of-self-in_err-insert
invariant_of-self-in_err-insert g c =
    rw (c.reserve.ensures.items, c.in_err-insert.ensures.items) (c.self.invariant.0, c.self.invariant.1, c.self.invariant.2, c.self.invariant.3, c.make_room.ensures.same c.self.inside.pages.items c.self.invariant.4)
