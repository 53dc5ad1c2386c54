use Rattle.std.proofs.Common.{ℤ, List, subst, arith}
use Rattle.ivl_laws.specs.Counts.{IsCountOf}
use Rattle.ivl_laws.specs.Runs.{Covers}
use Rattle.ivl_paged.proofs.Reading.{counts_all_pages}
use Rattle.ivl_paged.proofs.Totals.{size_counts, size_fits}
use Rattle.ivl_paged.proofs.paged_set.PagedSet.size.Goals as goal

pub unwrap-requires : goal.unwrap-requires
unwrap-requires g c = c.from_number.ensures.known.1 (size_fits g.B.Width.whole c.self.inside.pages g.B.Output.SizeNumber.greatest c.self.invariant g.met.B.Width.countable g.met.B.Output.SizeNumber.bounded c.len.result c.size_before-size.result c.size_before-size.ensures)

pub returns : goal.returns
returns g c =
    let made = rw c.unwrap.ensures at c.from_number.ensures.same_number in
    let all = size_counts g.B.Width.whole c.self.inside.pages g.B.Output.SizeNumber.greatest c.self.invariant g.met.B.Width.countable g.met.B.Output.SizeNumber.bounded c.len.result c.size_before-size.result _ c.size_before-size.ensures made in
    subst (λ (L : List (ℤ × ℤ)). IsCountOf (g.B.Output.SizeNumber.size c.unwrap.result) (Covers L)) c.self.view_is (counts_all_pages c.self.inside.pages c.len.result _ (omega (arith, c.len.ensures.value)) all)
