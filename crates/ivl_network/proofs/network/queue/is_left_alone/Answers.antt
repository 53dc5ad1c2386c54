use Rattle.std.proofs.Common.{◌∙◌, ap, subst, sym, List}
use Rattle.std.specs.Prelude.{ℤ, not}
use Rattle.std.proofs.lemmas.Bool.{false≢true}
use Rattle.ivl_laws.specs.Runs.{Covers}
use Rattle.ivl_laws.specs.Sets.{HasSome}
use Rattle.ivl_within.proofs.Lists.{entry_seen}
use Rattle.ivl_network.proofs.network.queue.is_left_alone.Goals as goal

pub returns : goal.returns
returns g c = λ t. (
  c.if-not-only_lost.false,
  c.if-not-alone.false,
  subst (λ (L : List (ℤ × ℤ)). HasSome (Covers L)) (entry_seen _ _ _ _ c.domains.ensures.same (c.requires c.if-not-only_lost.false) c.index-domains-variable.is)
      (c.is_empty.ensures.filled (λ e. false≢true (sym (ap not e) ∙ t))),
)
