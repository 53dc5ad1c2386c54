use Rattle.ivl_buffers.proofs.Previous.{maximal_in_order, pair_found, pair_has, pair_missing, run_found}
use Rattle.ivl_buffers.proofs.beside.pair_with.Goals as goal

pub returns-then-is_in-clause-member : goal.returns-then-is_in-clause-member
returns-then-is_in-clause-member g c = pair_has g.R.Pair.pair c.args.runs.now c.search-place.result.0 (g.R.Bound.Width.value c.args.v) c.search-place.result.1 c.search-place.ensures.has c.pair_at.result c.pair_at.ensures c.if-is_in.true

pub returns-then-is_in-clause-in_order : goal.returns-then-is_in-clause-in_order
returns-then-is_in-clause-in_order g c = λ o. pair_found g.R.Pair.pair c.args.runs.now c.search-place.result.0 (g.R.Bound.Width.value c.args.v) c.search-place.result.1 c.search-place.ensures.has c.pair_at.result c.pair_at.ensures c.if-is_in.true

pub returns-then-is_in-clause-run : goal.returns-then-is_in-clause-run
returns-then-is_in-clause-run g c = λ m. run_found g.R.Pair.pair c.args.runs.now c.search-place.result.0 (g.R.Bound.Width.value c.args.v) c.search-place.result.1 c.search-place.ensures.has c.pair_at.result c.pair_at.ensures c.if-is_in.true m

pub returns-else-is_in-clause-in_order : goal.returns-else-is_in-clause-in_order
returns-else-is_in-clause-in_order g c = λ o. pair_missing g.R.Pair.pair c.args.runs.now c.search-place.result.0 (g.R.Bound.Width.value c.args.v) c.search-place.result.1 c.search-place.ensures.has c.if-is_in.false (c.search-place.ensures.below o) c.search-place.ensures.from o

pub returns-else-is_in-clause-run : goal.returns-else-is_in-clause-run
returns-else-is_in-clause-run g c = λ m.
    let o = maximal_in_order _ m in
    pair_missing g.R.Pair.pair c.args.runs.now c.search-place.result.0 (g.R.Bound.Width.value c.args.v) c.search-place.result.1 c.search-place.ensures.has c.if-is_in.false (c.search-place.ensures.below o) c.search-place.ensures.from o
