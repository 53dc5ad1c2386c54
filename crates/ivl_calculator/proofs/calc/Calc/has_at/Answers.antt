use Rattle.std.proofs.Common.{refl, sym}
use Rattle.ivl_calculator.specs.Actions.{has}
use Rattle.ivl_calculator.proofs.Questions.{asks_none, asks_of}
use Rattle.ivl_calculator.proofs.calc.Calc.has_at.Goals as goal

pub returns-in-Some : goal.returns-in-Some
returns-in-Some g c = asks_of _ _ (has _ _) _ refl _ (c.in-Some.ensures.known.0 refl) (c.contains.result, refl, rw (sym c.in-Some.ensures.value) c.contains.ensures)

pub returns-in-None : goal.returns-in-None
returns-in-None g c = asks_none _ _ (has _ _) _ refl c.in-None.ensures.known
