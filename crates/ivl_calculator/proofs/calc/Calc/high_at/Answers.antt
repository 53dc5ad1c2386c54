use Rattle.std.proofs.Common.{refl}
use Rattle.ivl_calculator.specs.Actions.{high}
use Rattle.ivl_calculator.proofs.Questions.{asks_none, asks_of, high_seen}
use Rattle.ivl_calculator.proofs.calc.Calc.high_at.Goals as goal

pub returns-in-Some : goal.returns-in-Some
returns-in-Some g c =
    asks_of _ _ (high _) _ refl _ (c.in-Some.ensures.known.0 refl) (high_seen g.B.Width.value c.args.self.now c.args.register _ c.in-Some.set.now c.in-Some.ensures.value c.last.ensures.greatest)

pub returns-in-None : goal.returns-in-None
returns-in-None g c = asks_none _ _ (high _) _ refl c.in-None.ensures.known
