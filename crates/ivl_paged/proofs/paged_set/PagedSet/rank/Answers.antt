use Rattle.std.proofs.Common.{◌≡◌, ◌∙◌, ◌-◌, ◌<◌, [], ℕ, get_or, sym, subst, arith, take}
use Rattle.std.proofs.lemmas.List.{get_or_default}
use Rattle.ivl_laws.specs.Counts.{IsCountOf}
use Rattle.ivl_laws.specs.Sets.{Below}
use Rattle.ivl_laws.specs.Runs.{Covers}
use Rattle.ivl_paged.specs.Pages.{StartsUpTo, flattened}
use Rattle.ivl_paged.proofs.Reading.{no_rank_seen, ranks_fit, ranks_seen}
use Rattle.ivl_paged.proofs.Totals.{size_counts, size_fits}
use Rattle.ivl_paged.proofs.paged_set.PagedSet.rank.Goals as goal

pub returns-then-count-eq0 : goal.returns-then-count-eq0
returns-then-count-eq0 g c =
    let P = c.self.inside.pages in
    let v = g.B.Width.value c.args.v in
    let n = c.starts_up_to-count.result in
    let s : StartsUpTo P v n = c.starts_up_to-count.ensures in
    no_rank_seen P c.args.self.now v n _ c.self.invariant.maximal c.self.view_is s c.if-count-eq0.true c.zero.ensures

pub size_before-below-requires : goal.size_before-below-requires
size_before-below-requires g c =
    let s : StartsUpTo c.self.inside.pages (g.B.Width.value c.args.v) c.starts_up_to-count.result = c.starts_up_to-count.ensures in
    let most = s.at_most in
    omega (arith, most)

pub unwrap-requires : goal.unwrap-requires
unwrap-requires g c =
    c.from_number.ensures.known.1 (size_fits g.B.Width.whole c.self.inside.pages g.B.Output.SizeNumber.greatest c.self.invariant g.met.B.Width.countable g.met.B.Output.SizeNumber.bounded (c.starts_up_to-count.result - 1) c.size_before-below.result c.size_before-below.ensures)

pub add_in_range-requires : goal.add_in_range-requires
add_in_range-requires g c =
    let P = c.self.inside.pages in
    let v = g.B.Width.value c.args.v in
    let n = c.starts_up_to-count.result in
    let s : StartsUpTo P v n = c.starts_up_to-count.ensures in
    let most = s.at_most in
    let none = c.if-count-eq0.false in
    let some : 0 < n = omega arith in
    let page : c.page.result.now ≡ get_or P (n - 1) [] = c.page.ensures ∙ get_or_default P (n - 1) _ [] (omega arith) in
    let made = rw c.unwrap.ensures at c.from_number.ensures.same_number in
    let below : IsCountOf (g.B.Output.SizeNumber.size c.unwrap.result) (Covers (flattened (take (n - 1) P))) =
    size_counts g.B.Width.whole P g.B.Output.SizeNumber.greatest c.self.invariant g.met.B.Width.countable g.met.B.Output.SizeNumber.bounded (n - 1) c.size_before-below.result _ c.size_before-below.ensures made in
    ranks_fit g.B.Width.whole P c.args.self.now v _ _ c.self.invariant c.self.view_is g.met.B.Width.countable
    (ranks_seen P c.args.self.now c.set.result.now v n _ _ c.self.invariant.maximal c.self.view_is s some (c.set.ensures.same ∙ page) below c.rank-here.ensures)

pub returns : goal.returns
returns g c =
    let P = c.self.inside.pages in
    let v = g.B.Width.value c.args.v in
    let n = c.starts_up_to-count.result in
    let s : StartsUpTo P v n = c.starts_up_to-count.ensures in
    let most = s.at_most in
    let none = c.if-count-eq0.false in
    let some : 0 < n = omega arith in
    let page : c.page.result.now ≡ get_or P (n - 1) [] = c.page.ensures ∙ get_or_default P (n - 1) _ [] (omega arith) in
    let made = rw c.unwrap.ensures at c.from_number.ensures.same_number in
    let below : IsCountOf (g.B.Output.SizeNumber.size c.unwrap.result) (Covers (flattened (take (n - 1) P))) =
    size_counts g.B.Width.whole P g.B.Output.SizeNumber.greatest c.self.invariant g.met.B.Width.countable g.met.B.Output.SizeNumber.bounded (n - 1) c.size_before-below.result _ c.size_before-below.ensures made in
    subst (λ (k : ℕ). IsCountOf k (Below v (Covers c.args.self.now))) (sym c.add_in_range.ensures)
    (ranks_seen P c.args.self.now c.set.result.now v n _ _ c.self.invariant.maximal c.self.view_is s some (c.set.ensures.same ∙ page) below c.rank-here.ensures)
