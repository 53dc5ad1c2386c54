use Rattle.std.proofs.Common.{◌+◌, ℕ, take, subst, sym}
use Rattle.ivl_laws.specs.Counts.{IsCountOf}
use Rattle.ivl_laws.specs.Sets.{Intersection, IsBetween}
use Rattle.ivl_laws.specs.Runs.{Covers}
use Rattle.ivl_places.proofs.PartCounts.{parts_all, parts_fit, parts_more, parts_none}
use Rattle.intervallum.proofs.interval_set.runs_within.size_of_part.Goals as goal

pub loop-run-init : goal.loop-run-init
loop-run-init g c = parts_none c.args.runs.now (IsBetween c.args.window.now) _ c.zero-size.ensures

pub grown-size-requires : goal.grown-size-requires
grown-size-requires g c =
    parts_fit g.B.Width.whole c.args.runs.now (c.loop-run.run-index + 1) (IsBetween c.args.window.now) _ _ c.requires g.met.B.Width.countable
    (parts_more c.args.runs.now c.loop-run.run-index c.run-item.result c.requires.maximal c.loop-run-test.true c.run-item.is
    (IsBetween c.intersection.result) (IsBetween c.args.window.now) (g.B.Output.SizeNumber.size c.loop-run.size) (g.B.Output.SizeNumber.size c.size.result) c.intersection.ensures c.loop-run.invariant c.size.ensures.members)

pub loop-run-preserved : goal.loop-run-preserved
loop-run-preserved g c =
    subst (λ (k : ℕ). IsCountOf k (Intersection (Covers (take (c.loop-run.run-index + 1) c.args.runs.now)) (IsBetween c.args.window.now))) (sym c.grown-size.ensures)
    (parts_more c.args.runs.now c.loop-run.run-index c.run-item.result c.requires.maximal c.loop-run-test.true c.run-item.is
    (IsBetween c.intersection.result) (IsBetween c.args.window.now) (g.B.Output.SizeNumber.size c.loop-run.size) (g.B.Output.SizeNumber.size c.size.result) c.intersection.ensures c.loop-run.invariant c.size.ensures.members)

pub returns : goal.returns
returns g c = parts_all c.args.runs.now c.loop-run.run-index (IsBetween c.args.window.now) _ c.loop-run-test.false c.loop-run.invariant
