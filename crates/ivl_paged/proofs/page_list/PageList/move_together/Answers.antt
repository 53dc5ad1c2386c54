use Rattle.std.proofs.Common.{◌∙◌, arith, ap, length, length-drop, List, ℤ, subst}
use Rattle.ivl_paged.specs.Sizes.{AreSizes}
use Rattle.ivl_paged.proofs.Totals.{kept_none}
use Rattle.ivl_paged.proofs.page_list.PageList.move_together.Goals as goal

pub invariant_of-self : goal.invariant_of-self
invariant_of-self g c = rw (c.drop.ensures.items, c.drain.ensures.kept, c.drop-2.ensures.items, c.drain-2.ensures.kept) (c.self.invariant.0, c.self.invariant.1, omega arith, omega arith, subst (λ (Q : List (List (ℤ × ℤ))). AreSizes c.read_from.new.sizes.items Q) (c.as_slice.ensures.value ∙ c.drop-2.ensures.items ∙ c.drain-2.ensures.kept) c.read_from.ensures)

pub returns : goal.returns
returns g c = c.drop-2.ensures.items ∙ c.drain-2.ensures.kept ∙ c.self.view_is

pub read_from-requires : goal.read_from-requires
read_from-requires g c = record {
  room =
      let all = ap length (c.as_slice.ensures.value ∙ c.drop-2.ensures.items ∙ c.drain-2.ensures.kept) in
      let rest = length-drop c.self.inside.gone c.self.inside.pages.items in
      let most = c.self.invariant.4.enough in
      omega (arith, all, rest, most);
  kept = (c.self.inside.pages.items, c.self.invariant.4, kept_none c.self.inside.pages.items c.as_slice.result.now);
}
