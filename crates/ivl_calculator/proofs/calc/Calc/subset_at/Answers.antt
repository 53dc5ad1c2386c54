use Rattle.std.proofs.Common.{refl}
use Rattle.ivl_calculator.specs.Actions.{subset}
use Rattle.ivl_calculator.proofs.Questions.{asks_left_none, asks_right_none, asks_subset}
use Rattle.ivl_calculator.proofs.calc.Calc.subset_at.Goals as goal
use Rattle.ivl_calculator.proofs.calc.Calc.subset_at.Goals.{in_default-via-in-Some+in_default, in_default-via-in_default}

pub returns-in-Some-Some : goal.returns-in-Some-Some
returns-in-Some-Some g c =
    asks_subset _ _ _ _ _ _ _ (c.in-Some-Some.ensures.known.0 refl) (c.in-Some-Some.ensures'.known.0 refl)
    c.in-Some-Some.ensures.value c.in-Some-Some.ensures'.value c.is_subset.ensures

pub returns-in_default : goal.returns-in_default
returns-in_default g c = elim c.in_default.branch [
  | in_default-via-in-Some+in_default w ↦ asks_right_none _ _ (subset c.args.left c.args.right) _ _ refl w.in_default.ensures'.known
  | in_default-via-in_default w ↦ asks_left_none _ _ (subset c.args.left c.args.right) _ _ refl w.in_default.ensures.known
]
