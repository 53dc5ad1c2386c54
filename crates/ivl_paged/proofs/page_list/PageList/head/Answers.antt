use Rattle.std.proofs.Common.{◌<◌, List, ℤ, ap, arith, drop, length, subst, sym}
use Rattle.ivl_laws.specs.Families.{set_at}
use Rattle.ivl_places.specs.Neighbours.{IsLeast}
use Rattle.ivl_paged.proofs.Heads.{head_at}
use Rattle.ivl_paged.proofs.Rests.{head_place, item_of_rest}
use Rattle.ivl_paged.proofs.page_list.PageList.head.Goals as goal

pub index-requires : goal.index-requires
index-requires g c = let there = head_place g.B.Width.value c.self.inside.heads.items c.self.inside.pages.items c.args.self.now c.self.inside.gone c.args.i c.self.invariant.0.0 c.self.view_is c.requires in omega (arith, there)

pub returns : goal.returns
returns g c =
    let P = drop c.self.inside.gone c.self.inside.pages.items in
    let view = ap (λ (Q : List (List (ℤ × ℤ))). length Q) c.self.view_is in
    let less : c.args.i < length P = omega (arith, view, c.requires) in
    subst (λ (Q : List (List (ℤ × ℤ))). IsLeast (g.B.Width.value c.index.result.now) (set_at Q c.args.i)) c.self.view_is
    (subst (λ x. IsLeast (g.B.Width.value x) (set_at P c.args.i)) (sym (item_of_rest c.self.inside.heads.items c.self.inside.gone c.args.i c.index.result.now c.index.ensures)) (head_at g.B.Width.value (drop c.self.inside.gone c.self.inside.heads.items) P c.args.i c.index.result.now c.self.invariant.0.0 less))
