use Rattle.std.proofs.Common.{arith, subst, sym}
use Rattle.ivl_laws.specs.Counts.{IsCountOf}
use Rattle.ivl_laws.specs.Runs.{Covers}
use Rattle.ivl_laws.specs.Sets.{IsBetween}
use Rattle.ivl_search.proofs.Halves.{middle_in_range, worse_than_middle}
use Rattle.ivl_search.proofs.search.choice.cut_value.Goals as goal

pub returns-then-size-gt64-clause-worse : goal.returns-then-size-gt64-clause-worse
returns-then-size-gt64-clause-worse g c =
    let S = Covers c.args.domain.now in
    let more = c.if-size-gt64.true in
    worse_than_middle g.B.Width.value c.args.wanted S c.middle.result c.number-size.result (subst (λ n. IsCountOf n S) (sym c.number-size.ensures.number) c.size.ensures) (omega (arith, more)) c.middle.ensures

pub returns-then-size-gt64-clause-in_range : goal.returns-then-size-gt64-clause-in_range
returns-then-size-gt64-clause-in_range g c =
    middle_in_range g.B.Width.value c.args.wanted (Covers c.args.domain.now) (IsBetween g.B.Width.whole) c.middle.result c.in_whole.ensures.within c.middle.ensures
