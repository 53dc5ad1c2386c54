use Rattle.std.proofs.Common.{refl}
use Rattle.ivl_calculator.specs.Actions.{count}
use Rattle.ivl_calculator.proofs.Questions.{asks_none, asks_of, count_seen}
use Rattle.ivl_calculator.proofs.calc.Calc.count_at.Goals as goal

pub returns-in-Some : goal.returns-in-Some
returns-in-Some g c =
    asks_of _ _ (count _) _ refl _ (c.in-Some.ensures.known.0 refl)
    (count_seen c.args.self.now c.args.register _ c.in-Some.set.now c.in-Some.ensures.value c.interval_count.ensures.count c.interval_count.ensures.runs.maximal)

pub returns-in-None : goal.returns-in-None
returns-in-None g c = asks_none _ _ (count _) _ refl c.in-None.ensures.known
