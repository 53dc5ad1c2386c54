use Rattle.std.proofs.Common.{ℕ, ⊎_elim, sym, subst}
use Rattle.ivl_laws.specs.Counts.{IsCountOf}
use Rattle.ivl_laws.specs.Sets.{Union}
use Rattle.ivl_laws.specs.Runs.{Covers}
use Rattle.ivl_laws.proofs.Lengths.{decide_covers}
use Rattle.ivl_places.proofs.SetSizes.{count_fits, union_count}
use Rattle.intervallum.proofs.interval_set.IntervalSet.union_size.Goals as goal

pub grown-requires : goal.grown-requires
grown-requires g c =
    count_fits g.B.Width.whole (Union (Covers c.args.self.now) (Covers c.args.other.now)) _ g.B.Output.SizeNumber.greatest
    (λ z. ⊎_elim (c.in_whole.ensures.within z) (c.in_whole-2.ensures.within z)) g.met.B.Width.countable
    (union_count (Covers c.args.self.now) (Covers c.args.other.now) _ _ (decide_covers c.args.other.now) c.size.ensures c.difference_size-more.ensures)

pub returns : goal.returns
returns g c =
    subst (λ (k : ℕ). IsCountOf k (Union (Covers c.args.self.now) (Covers c.args.other.now))) (sym c.grown.ensures)
    (union_count (Covers c.args.self.now) (Covers c.args.other.now) _ _ (decide_covers c.args.other.now) c.size.ensures c.difference_size-more.ensures)
