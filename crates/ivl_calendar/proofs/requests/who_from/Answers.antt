use Rattle.std.proofs.Common.{◌∙◌, ◌∷◌, ap, List, ℕ}
use Rattle.ivl_calendar.proofs.requests.who_from.Goals as goal

pub returns-in-None-clause-ok : goal.returns-in-None-clause-ok
returns-in-None-clause-ok c =
    (c.in-Some.ensures.some ∙ ap (λ (rest : List (List ℕ)). c.in-Some.who.now ∷ rest) c.in-None.ensures.none, c.is_name.ensures.0 c.if-is_name.true)
