use Rattle.std.proofs.Common.{refl}
use Rattle.ivl_calculator.specs.Actions.{size}
use Rattle.ivl_calculator.proofs.Questions.{asks_none, asks_of, size_seen}
use Rattle.ivl_calculator.proofs.calc.Calc.size_at.Goals as goal

pub returns-in-Some : goal.returns-in-Some
returns-in-Some g c =
    asks_of _ _ (size _) _ refl _ (c.in-Some.ensures.known.0 refl) (size_seen c.args.self.now c.args.register _ c.in-Some.set.now c.in-Some.ensures.value c.size.ensures)

pub returns-in-None : goal.returns-in-None
returns-in-None g c = asks_none _ _ (size _) _ refl c.in-None.ensures.known
