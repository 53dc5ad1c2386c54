use Rattle.std.proofs.Common.{inl, inr, arith}
use Rattle.std.proofs.lemmas.Int.{ints}
use Rattle.ivl_laws.specs.Runs.{Covers}
use Rattle.ivl_laws.proofs.Orders.{lt_number}
use Rattle.ivl_paged.proofs.Longest.{longest_part}
use Rattle.ivl_paged.proofs.page.longest_after.Goals as goal

pub returns-then-lt : goal.returns-then-lt
returns-then-lt g c =
    let lt = (lt_number g.met.B.Width.ordered _ _ _ c.lt.ensures).0 c.if-lt.true in
    let a = c.upper_bound.ensures in
    let b = c.lower_bound.ensures in
    longest_part c.args.before (Covers c.args.set.now) (c.requires.kept (inl (omega (arith, ints, lt, a, b)))) c.requires.most

pub returns-then-lt-2 : goal.returns-then-lt-2
returns-then-lt-2 g c =
    let lt = (lt_number g.met.B.Width.ordered _ _ _ c.lt-2.ensures).0 c.if-lt-2.true in
    let a = c.upper_bound-2.ensures in
    let b = c.lower_bound-2.ensures in
    longest_part c.args.before (Covers c.args.set.now) (c.requires.kept (inr (omega (arith, ints, lt, a, b)))) c.requires.most
