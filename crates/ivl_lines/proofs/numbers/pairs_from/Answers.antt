use Rattle.std.proofs.Common.{rules}
use Rattle.ivl_lines.proofs.Pairs.{pairs_of-step}
use Rattle.ivl_lines.proofs.numbers.pairs_from.Goals as goal

pub loop-l-preserved : goal.loop-l-preserved
loop-l-preserved c = (
  search rules,
  pairs_of-step _ _ _ _ _ _ _ _ _ _ c.in-Some.ensures.some c.in-Some-next_word.ensures.some c.pair_from.ensures c.in-Some-pair_from.is c.in_ok-push-in-Some-pair_from.ensures.items c.loop-l.invariant.1,
)
