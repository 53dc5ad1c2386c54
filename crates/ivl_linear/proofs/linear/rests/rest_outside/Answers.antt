use Rattle.std.proofs.Common.{sym, ◌∙◌}
use Rattle.std.proofs.lemmas.Bool.{false≢true}
use Rattle.ivl_linear.proofs.linear.rests.rest_outside.Goals as goal

pub returns : goal.returns
returns g c = (c.in_ok-difference.ensures.members.members, (λ s. false≢true (sym c.if-is_disjoint.false ∙ c.is_disjoint.ensures.1 (λ z b. s z b.0 b.1))))
