use Rattle.std.proofs.Common.{◌≡◌, ◌-◌, ℤ, List, Some, length, subst, sym, ◌∙◌}
use Rattle.std.proofs.lemmas.List.{map-id}
use Rattle.std.specs.Prelude.{slice_get}
use Rattle.ivl_laws.specs.Runs.{AddsRun}
use Rattle.ivl_laws.proofs.Intervals.{within_is_in_range}
use Rattle.ivl_walks.proofs.Unions.{last_is_open}
use Rattle.intervallum.proofs.interval_set.builder.add_reserved.Goals as goal

pub push_joined-requires-clause-last : goal.push_joined-requires-clause-last
push_joined-requires-clause-last g c =
    let filled = last_is_open c.args.runs.now.items c.args.last c.requires.last c.requires.maximal in
    (filled, within_is_in_range g.B.Width.whole c.args.last filled c.in_whole.ensures)

pub push_joined-requires-clause-run : goal.push_joined-requires-clause-run
push_joined-requires-clause-run g c = (c.requires.filled, within_is_in_range g.B.Width.whole c.args.run c.requires.filled c.in_whole-2.ensures)

pub returns-clause-adds : goal.returns-clause-adds
returns-clause-adds g c =
    let L = c.args.runs.now.items in
    let (M, written, adds, last) = c.push_joined.ensures.adds c.args.runs.now L (map-id L) c.requires.maximal c.requires.in_order c.requires.last in
    subst (λ (N : List (ℤ × ℤ)). AddsRun L c.args.run N) (sym written ∙ map-id c.push_joined.new.out.items) adds

pub returns-clause-last : goal.returns-clause-last
returns-clause-last g c =
    let L = c.args.runs.now.items in
    let (M, written, adds, last) = c.push_joined.ensures.adds c.args.runs.now L (map-id L) c.requires.maximal c.requires.in_order c.requires.last in
    subst (λ (N : List (ℤ × ℤ)). Some c.push_joined.result ≡ slice_get N (length N - 1)) (sym written ∙ map-id c.push_joined.new.out.items) last
