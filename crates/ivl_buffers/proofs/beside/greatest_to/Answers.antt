use Rattle.std.proofs.Common.{◌≡◌, ◌-◌, ◌<◌, suc, length, option_map, arith}
use Rattle.ivl_buffers.proofs.Previous.{no_previous, previous_here, previous_is_greatest, previous_is_member}
use Rattle.ivl_buffers.proofs.beside.greatest_to.Goals as goal

pub returns-then-is_in-clause-member : goal.returns-then-is_in-clause-member
returns-then-is_in-clause-member g c = (previous_here g.R.Pair.pair c.args.runs.now c.search-place.result.0 (g.R.Bound.Width.value c.args.v) c.search-place.result.1 c.search-place.ensures.has c.if-is_in.true).0

pub returns-then-is_in-clause-in_order : goal.returns-then-is_in-clause-in_order
returns-then-is_in-clause-in_order g c = λ o. previous_here g.R.Pair.pair c.args.runs.now c.search-place.result.0 (g.R.Bound.Width.value c.args.v) c.search-place.result.1 c.search-place.ensures.has c.if-is_in.true

pub returns-then-place-eq0-clause-in_order : goal.returns-then-place-eq0-clause-in_order
returns-then-place-eq0-clause-in_order g c = λ o. no_previous g.R.Pair.pair c.args.runs.now c.search-place.result.0 (g.R.Bound.Width.value c.args.v) c.search-place.result.1 c.search-place.ensures.has c.if-place-eq0.true c.if-is_in.false c.search-place.ensures.from o

pub returns-clause-member : goal.returns-clause-member
returns-clause-member g c =
    let k = c.search-place.result.0 in
    let some = c.if-place-eq0.false in
    let most = c.search-place.ensures.at_most in
    let less : k - 1 < length c.args.runs.now = omega (arith, some, most) in
    let next : suc (k - 1) ≡ k = omega (arith, some) in
    previous_is_member g.R.Pair.pair c.args.runs.now k (g.R.Bound.Width.value c.args.v) c.search-place.result.1 c.search-place.ensures.has c.index-runs-place.result (k - 1) less next c.index-runs-place.is
    g.R.Bound.Width.value c.greatest_in.result c.greatest_in.ensures

pub returns-clause-in_order : goal.returns-clause-in_order
returns-clause-in_order g c = λ o.
    let k = c.search-place.result.0 in
    let some = c.if-place-eq0.false in
    let most = c.search-place.ensures.at_most in
    let less : k - 1 < length c.args.runs.now = omega (arith, some, most) in
    let next : suc (k - 1) ≡ k = omega (arith, some) in
    previous_is_greatest g.R.Pair.pair c.args.runs.now k (g.R.Bound.Width.value c.args.v) c.search-place.result.1 c.search-place.ensures.has c.index-runs-place.result (k - 1) less next c.index-runs-place.is
    (option_map g.R.Bound.Width.value c.greatest_in.result) c.if-is_in.false (c.search-place.ensures.below o) c.search-place.ensures.from o c.greatest_in.ensures
