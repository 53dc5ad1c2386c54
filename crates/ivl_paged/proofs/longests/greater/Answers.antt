use Rattle.std.proofs.Common.{inl, inr, refl, arith}
use Rattle.ivl_places.proofs.FirstFit.{at_least_by_count, below_by_count}
use Rattle.ivl_paged.proofs.longests.greater.Goals as goal

pub returns-then-ge : goal.returns-then-ge
returns-then-ge g c = record {
  at_least_x = omega arith;
  at_least_y = at_least_by_count g.met.N.SizeNumber.ordered _ _ _ c.ge.ensures c.if-ge.true;
  either = inl refl;
}

pub returns-else-ge : goal.returns-else-ge
returns-else-ge g c = record {
  at_least_x = let less = below_by_count g.met.N.SizeNumber.ordered _ _ _ c.ge.ensures c.if-ge.false in omega (arith, less);
  at_least_y = omega arith;
  either = inr refl;
}
