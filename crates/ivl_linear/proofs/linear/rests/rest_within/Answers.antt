use Rattle.std.proofs.Common.{sym, ◌∙◌}
use Rattle.std.proofs.lemmas.Bool.{false≢true}
use Rattle.ivl_linear.proofs.linear.rests.rest_within.Goals as goal

pub returns : goal.returns
returns g c = (c.in_ok-intersection.ensures.members.members, (λ s. false≢true (sym c.if-lies_in.false ∙ c.lies_in.ensures.1 s)))
