use Rattle.std.proofs.Common.{subst, ◌∙◌, ap}
use Rattle.std.specs.Prelude.{All}
use Rattle.std.proofs.lemmas.List.{take_all}
use Rattle.std.proofs.lemmas.List.Elements.{All-more}
use Rattle.ivl_laws.specs.Runs.{IsRunListIn}
use Rattle.ivl_store.specs.Posts.{empty_count}
use Rattle.ivl_store.proofs.Empties.{empties_step}
use Rattle.ivl_store.proofs.store.Store.new.Goals as goal

pub loop-domain-preserved : goal.loop-domain-preserved
loop-domain-preserved g c = (
  All-more (IsRunListIn g.B.Width.whole) _ c.loop-domain.domain-index c.domain-item.result c.loop-domain-test.true c.loop-domain.invariant.0
      (subst (IsRunListIn g.B.Width.whole) c.domain-item.is c.in_whole.ensures),
  empties_step _ c.loop-domain.domain-index c.domain-item.result c.is_empty.result c.loop-domain.empties c.one_if-is.result c.loop-domain-test.true c.domain-item.is
      c.is_empty.ensures.none c.loop-domain.invariant.1 c.one_if-is.ensures,
)

pub invariant_of-result : goal.invariant_of-result
invariant_of-result g c =
    let all = take_all c.loop-domain.domain-index _ c.loop-domain-test.false ∙ c.deref-domain-items.ensures.value in
    (subst (All (IsRunListIn g.B.Width.whole)) all c.loop-domain.invariant.0, c.loop-domain.invariant.1 ∙ ap empty_count all)
