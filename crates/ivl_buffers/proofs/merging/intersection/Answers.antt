use Rattle.std.proofs.Common.{ap, sym, ◌+◌, ◌∙◌, length, map}
use Rattle.ivl_laws.specs.Sets.{Intersection}
use Rattle.ivl_laws.specs.Runs.{Covers}
use Rattle.ivl_walks.specs.Sinks.{laid}
use Rattle.ivl_buffers.proofs.Output.{merged_at_most, merged_is_laid}
use Rattle.ivl_buffers.proofs.merging.intersection.Goals as goal

pub returns-clause-runs : goal.returns-clause-runs
returns-clause-runs g c =
    let pair = g.R.Pair.pair in
    merged_is_laid _ (Intersection (Covers (map pair c.args.a.now)) (Covers (map pair c.args.b.now))) (length c.args.a.now + length c.args.b.now) (map pair c.args.out.now) _ c.count.result (λ L (m, k, r). (
      c.count.ensures.count ∙ k,
      ap (map pair) (c.out-1.given.1.1 (sym c.new-made.ensures.same ∙ sym m) ∙ c.count.ensures.left) ∙ r ∙ ap (λ s. laid L (map pair s)) c.new-made.ensures.now,
    )) c.intersection.ensures

pub returns-clause-at_most : goal.returns-clause-at_most
returns-clause-at_most g c =
    let pair = g.R.Pair.pair in
    merged_at_most _ (Intersection (Covers (map pair c.args.a.now)) (Covers (map pair c.args.b.now))) (length c.args.a.now + length c.args.b.now) c.count.result (λ L (m, k, r). c.count.ensures.count ∙ k) c.intersection.ensures
