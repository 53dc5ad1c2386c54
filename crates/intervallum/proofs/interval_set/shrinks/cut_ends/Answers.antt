use Rattle.std.proofs.Common.{◌-◌, set, arith}
use Rattle.ivl_laws.proofs.Intervals.{some_is_not_crossed}
use Rattle.ivl_places.proofs.Cutting.{IsCutFrom, is_cut_from}
use Rattle.intervallum.proofs.interval_set.shrinks.cut_ends.Goals as goal

pub returns-clause-before : goal.returns-clause-before
returns-clause-before g c =
    let filled = c.if-count-from.false in
    let len = c.args.runs.now.ok.0 in
    let cut : IsCutFrom g.B.Width.whole c.args.runs.now.items c.args.window.now c.args.from (set (set c.args.runs.now.items c.args.from c.shrink_left.result) (c.len-count.result - 1) c.shrink_right.result) =
    is_cut_from g.B.Width.whole c.args.runs.now.items c.args.window.now c.index.result.now c.index-2.result.now c.shrink_left.result c.shrink_right.result c.args.from (c.len-count.result - 1) _ _
    c.requires.runs c.requires.window c.requires.first c.requires.last (omega (arith, len, filled, c.requires.at_most)) (omega (arith, len, filled, c.requires.at_most)) c.lower.ensures.value c.upper.ensures.value
    c.index.ensures c.shrink_left.ensures c.index-2.ensures c.shrink_right.ensures in
    cut.before

pub returns-clause-members : goal.returns-clause-members
returns-clause-members g c =
    let filled = c.if-count-from.false in
    let len = c.args.runs.now.ok.0 in
    let cut : IsCutFrom g.B.Width.whole c.args.runs.now.items c.args.window.now c.args.from (set (set c.args.runs.now.items c.args.from c.shrink_left.result) (c.len-count.result - 1) c.shrink_right.result) =
    is_cut_from g.B.Width.whole c.args.runs.now.items c.args.window.now c.index.result.now c.index-2.result.now c.shrink_left.result c.shrink_right.result c.args.from (c.len-count.result - 1) _ _
    c.requires.runs c.requires.window c.requires.first c.requires.last (omega (arith, len, filled, c.requires.at_most)) (omega (arith, len, filled, c.requires.at_most)) c.lower.ensures.value c.upper.ensures.value
    c.index.ensures c.shrink_left.ensures c.index-2.ensures c.shrink_right.ensures in
    cut.part.runs

pub returns-clause-within : goal.returns-clause-within
returns-clause-within g c =
    let filled = c.if-count-from.false in
    let len = c.args.runs.now.ok.0 in
    let cut : IsCutFrom g.B.Width.whole c.args.runs.now.items c.args.window.now c.args.from (set (set c.args.runs.now.items c.args.from c.shrink_left.result) (c.len-count.result - 1) c.shrink_right.result) =
    is_cut_from g.B.Width.whole c.args.runs.now.items c.args.window.now c.index.result.now c.index-2.result.now c.shrink_left.result c.shrink_right.result c.args.from (c.len-count.result - 1) _ _
    c.requires.runs c.requires.window c.requires.first c.requires.last (omega (arith, len, filled, c.requires.at_most)) (omega (arith, len, filled, c.requires.at_most)) c.lower.ensures.value c.upper.ensures.value
    c.index.ensures c.shrink_left.ensures c.index-2.ensures c.shrink_right.ensures in
    cut.part.list

pub lower-requires : goal.lower-requires
lower-requires g c = (some_is_not_crossed c.args.window.now).1 c.requires.window

pub upper-requires : goal.upper-requires
upper-requires g c = (some_is_not_crossed c.args.window.now).1 c.requires.window
