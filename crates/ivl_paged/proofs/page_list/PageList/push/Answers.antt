use Rattle.std.proofs.Common.{◌≡◌, ◌∙◌, ◌∷◌, [], ap, arith, length, length-append, ◌++◌, refl, drop}
use Rattle.ivl_paged.specs.Pages.{flattened}
use Rattle.ivl_paged.proofs.Bounding.{bounded_more}
use Rattle.ivl_paged.proofs.Heads.{heads_push}
use Rattle.ivl_paged.proofs.Paging.{flattened-append}
use Rattle.std.proofs.lemmas.List.{drop-append-le}
use Rattle.ivl_paged.proofs.Totals.{page_pushed}
use Rattle.ivl_paged.proofs.page_list.PageList.push.Goals as goal

pub invariant_of-self-2 : goal.invariant_of-self-2
invariant_of-self-2 g c =
    let P = drop c.self.inside.gone c.self.inside.pages.items in
    let all = ap length (flattened-append P (c.args.page ∷ [])) ∙ length-append (flattened P) (flattened (c.args.page ∷ [])) in
    let one = length-append c.args.page [] in
    let pages = drop-append-le c.self.inside.gone c.self.inside.pages.items (c.args.page ∷ []) c.self.invariant.3 in
    let heads = drop-append-le c.self.inside.gone c.self.inside.heads.items (c.head-head.result ∷ []) c.self.invariant.2 in
    let n = length-append c.self.inside.pages.items (c.args.page ∷ []) in
    let m = length-append c.self.inside.heads.items (c.head-head.result ∷ []) in
    let low = c.self.invariant.2 in
    let high = c.self.invariant.3 in
    let reserved = ap length c.reserve-2.ensures.items in
    let placed : c.len-2.result ≡ length c.self.inside.pages.items = omega (arith, reserved) in
    rw (c.push_reserved.ensures.items, c.push_reserved-2.ensures.items, c.reserve.ensures.items, c.reserve-2.ensures.items, pages, heads) (
      (heads_push g.B.Width.value (drop c.self.inside.gone c.self.inside.heads.items) P c.head-head.result c.args.page c.self.invariant.0.0 c.head-head.ensures, omega (arith, all, one, c.self.invariant.0.1)),
      bounded_more c.self.inside.longests c.push.new.self P (P ++ c.args.page ∷ []) (g.B.Output.SizeNumber.size c.longest.result) c.args.page c.self.invariant.1 c.longest.ensures c.in_ok-push.ensures.ok refl,
      omega (arith, m, low),
      omega (arith, n, high),
      c.change.ensures c.self.inside.pages.items (c.self.inside.pages.items ++ c.args.page ∷ []) (c.make_room.ensures.same c.self.inside.pages.items c.self.invariant.4) (page_pushed c.self.inside.pages.items c.args.page c.len-2.result c.member_count.result placed c.member_count.ensures),
    )

pub make_room-requires : goal.make_room-requires
make_room-requires g c = let most = c.self.invariant.4.enough in let same = ap length c.reserve-2.ensures.items in omega (arith, most, same)

pub invariant_of-self-in_err-make_room : goal.invariant_of-self-in_err-make_room
invariant_of-self-in_err-make_room g c = rw (c.reserve.ensures.items, c.reserve-2.ensures.items) (c.self.invariant.0, c.self.invariant.1, c.self.invariant.2, c.self.invariant.3, c.make_room.ensures.same c.self.inside.pages.items c.self.invariant.4)

pub invariant_of-self-in_err-push : goal.invariant_of-self-in_err-push
invariant_of-self-in_err-push g c =
    rw (c.reserve.ensures.items, c.reserve-2.ensures.items, c.in_err-push.ensures.err) (c.self.invariant.0, c.self.invariant.1, c.self.invariant.2, c.self.invariant.3, c.make_room.ensures.same c.self.inside.pages.items c.self.invariant.4)
