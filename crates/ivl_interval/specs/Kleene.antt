-- What `entail` answers.
--     IsEntailmentOf S T answer      `True` if S is a subset of T, else `False` if T is one of S, else `Unknown`
use Rattle.std.specs.Prelude.{ℤ}
use Rattle.ivl_laws.specs.Sets.{IsSubset}
use Rattle.ivl_interval.specs.declared.kleene.SKleene.{SKleene}
use Rattle.ivl_interval.specs.declared.kleene.SKleene.TheVariants.{True, False, Unknown}

abbrev pub IsEntailmentOf : (ℤ → Type 0) → (ℤ → Type 0) → SKleene → Type 0
IsEntailmentOf S T True = IsSubset S T
IsEntailmentOf S T False = (¬ (IsSubset S T)) × IsSubset T S
IsEntailmentOf S T Unknown = (¬ (IsSubset S T)) × (¬ (IsSubset T S))
