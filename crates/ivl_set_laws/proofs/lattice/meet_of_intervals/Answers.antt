use Rattle.std.proofs.Common.{⊎_elim}
use Rattle.ivl_laws.specs.Sets.{IsBetween, Union}
use Rattle.ivl_laws.proofs.Spans.{IsHullOf-same, hull_is_least, hull_is_unique, meet_assoc}
use Rattle.ivl_laws.proofs.SetLaws.{union_comm}
use Rattle.ivl_set_laws.proofs.lattice.meet_of_intervals.Goals as goal

pub returns-clause-associates : goal.returns-clause-associates
returns-clause-associates c = λ p q s first last left right h k. meet_assoc p q s first last left right h k

pub returns-clause-agrees : goal.returns-clause-agrees
returns-clause-agrees c = λ p q r s h k. hull_is_unique (Union (IsBetween p) (IsBetween q)) r s h
    (IsHullOf-same (Union (IsBetween q) (IsBetween p)) (Union (IsBetween p) (IsBetween q)) s (union_comm (IsBetween q) (IsBetween p)) k)

pub returns-clause-least : goal.returns-clause-least
returns-clause-least c = λ p q r s h f g. hull_is_least (Union (IsBetween p) (IsBetween q)) r s h (λ z. ⊎_elim (f z) (g z))
