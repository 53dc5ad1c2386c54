use Rattle.std.proofs.Common.{refl}
use Rattle.ivl_calculator.specs.Actions.{low}
use Rattle.ivl_calculator.proofs.Questions.{asks_none, asks_of, low_seen}
use Rattle.ivl_calculator.proofs.calc.Calc.low_at.Goals as goal

pub returns-in-Some : goal.returns-in-Some
returns-in-Some g c =
    asks_of _ _ (low _) _ refl _ (c.in-Some.ensures.known.0 refl) (low_seen g.B.Width.value c.args.self.now c.args.register _ c.in-Some.set.now c.in-Some.ensures.value c.first.ensures.least)

pub returns-in-None : goal.returns-in-None
returns-in-None g c = asks_none _ _ (low _) _ refl c.in-None.ensures.known
