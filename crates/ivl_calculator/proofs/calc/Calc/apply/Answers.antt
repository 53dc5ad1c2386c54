use Rattle.ivl_calculator.specs.View.{action_of}
use Rattle.ivl_calculator.proofs.Runs.{MayStep-of}
use Rattle.ivl_calculator.proofs.calc.Calc.apply.Goals as goal

pub returns-in-Set : goal.returns-in-Set
returns-in-Set g c = rw (c.in-Set.is, ← c.deref.ensures.value) c.set_at.ensures

pub returns-in-Union : goal.returns-in-Union
returns-in-Union g c = MayStep-of (action_of g.B.Width.value) _ _ _ _ _ _ c.in-Union.is c.merge_at.ensures

pub returns-in-Inter : goal.returns-in-Inter
returns-in-Inter g c = MayStep-of (action_of g.B.Width.value) _ _ _ _ _ _ c.in-Inter.is c.merge_at-in-Inter.ensures

pub returns-in-Diff : goal.returns-in-Diff
returns-in-Diff g c = MayStep-of (action_of g.B.Width.value) _ _ _ _ _ _ c.in-Diff.is c.merge_at-in-Diff.ensures

pub returns-in-Sym : goal.returns-in-Sym
returns-in-Sym g c = MayStep-of (action_of g.B.Width.value) _ _ _ _ _ _ c.in-Sym.is c.merge_at-in-Sym.ensures

pub returns-in-Comp : goal.returns-in-Comp
returns-in-Comp g c = MayStep-of (action_of g.B.Width.value) _ _ _ _ _ _ c.in-Comp.is c.complement_at.ensures

pub returns-in-Left : goal.returns-in-Left
returns-in-Left g c = MayStep-of (action_of g.B.Width.value) _ _ _ _ _ _ c.in-Left.is c.part_at.ensures

pub returns-in-Right : goal.returns-in-Right
returns-in-Right g c = MayStep-of (action_of g.B.Width.value) _ _ _ _ _ _ c.in-Right.is c.part_at-in-Right.ensures

pub returns-in-StrictLeft : goal.returns-in-StrictLeft
returns-in-StrictLeft g c = MayStep-of (action_of g.B.Width.value) _ _ _ _ _ _ c.in-StrictLeft.is c.part_at-in-StrictLeft.ensures

pub returns-in-StrictRight : goal.returns-in-StrictRight
returns-in-StrictRight g c = MayStep-of (action_of g.B.Width.value) _ _ _ _ _ _ c.in-StrictRight.is c.part_at-in-StrictRight.ensures

pub returns-in-Plus : goal.returns-in-Plus
returns-in-Plus g c = MayStep-of (action_of g.B.Width.value) _ _ _ _ _ _ c.in-Plus.is c.plus_at.ensures

pub returns-in-Minus : goal.returns-in-Minus
returns-in-Minus g c = MayStep-of (action_of g.B.Width.value) _ _ _ _ _ _ c.in-Minus.is c.minus_at.ensures

pub returns-in-Times : goal.returns-in-Times
returns-in-Times g c = MayStep-of (action_of g.B.Width.value) _ _ _ _ _ _ c.in-Times.is c.times_at.ensures

pub returns-in-PlusValue : goal.returns-in-PlusValue
returns-in-PlusValue g c = MayStep-of (action_of g.B.Width.value) _ _ _ _ _ _ c.in-PlusValue.is c.value_at.ensures

pub returns-in-MinusValue : goal.returns-in-MinusValue
returns-in-MinusValue g c = MayStep-of (action_of g.B.Width.value) _ _ _ _ _ _ c.in-MinusValue.is c.value_at-in-MinusValue.ensures

pub returns-in-TimesValue : goal.returns-in-TimesValue
returns-in-TimesValue g c = MayStep-of (action_of g.B.Width.value) _ _ _ _ _ _ c.in-TimesValue.is c.value_at-in-TimesValue.ensures

pub returns-in-Has : goal.returns-in-Has
returns-in-Has g c = MayStep-of (action_of g.B.Width.value) _ _ _ _ _ _ c.in-Has.is c.has_at.ensures

pub returns-in-Size : goal.returns-in-Size
returns-in-Size g c = MayStep-of (action_of g.B.Width.value) _ _ _ _ _ _ c.in-Size.is c.size_at.ensures

pub returns-in-Count : goal.returns-in-Count
returns-in-Count g c = MayStep-of (action_of g.B.Width.value) _ _ _ _ _ _ c.in-Count.is c.count_at.ensures

pub returns-in-Low : goal.returns-in-Low
returns-in-Low g c = MayStep-of (action_of g.B.Width.value) _ _ _ _ _ _ c.in-Low.is c.low_at.ensures

pub returns-in-High : goal.returns-in-High
returns-in-High g c = MayStep-of (action_of g.B.Width.value) _ _ _ _ _ _ c.in-High.is c.high_at.ensures

pub returns-in-Same : goal.returns-in-Same
returns-in-Same g c = MayStep-of (action_of g.B.Width.value) _ _ _ _ _ _ c.in-Same.is c.same_at.ensures

pub returns-in-Sub : goal.returns-in-Sub
returns-in-Sub g c = MayStep-of (action_of g.B.Width.value) _ _ _ _ _ _ c.in-Sub.is c.subset_at.ensures

pub returns-in-Meets : goal.returns-in-Meets
returns-in-Meets g c = MayStep-of (action_of g.B.Width.value) _ _ _ _ _ _ c.in-Meets.is c.meets_at.ensures

pub returns-in-Show : goal.returns-in-Show
returns-in-Show g c = MayStep-of (action_of g.B.Width.value) _ _ _ _ _ _ c.in-Show.is c.show_at.ensures
