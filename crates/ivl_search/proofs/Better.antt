-- The best solution so far, and which solutions are left.
use Rattle.std.proofs.Common.{◌≡◌, ◌<◌, ◌≤◌, ◌+◌, ℕ, zero, suc, ◌⊎◌, ◌∙◌, ap, inl, inr, sym, arith, List, get_or, length, map}
use Rattle.std.specs.Prelude.{ℤ, pos, ◌↔◌, Option, Some, None, IfNone, IfSome, option_map}
use Rattle.std.proofs.lemmas.Int.{ints}
use Rattle.std.proofs.lemmas.List.{get_or-map}
use Rattle.ivl_search.specs.Best.{IsAsGood, IsBestAt, IsBetter}
use Rattle.ivl_search.specs.Points.{ImprovesTo, coordinate}
use Rattle.ivl_search.specs.declared.search.choice.Wanted.{Wanted}
use Rattle.ivl_search.specs.declared.search.choice.Wanted.TheVariants.{Least, Greatest}
use Rattle.ivl_search.proofs.Cuts.{le_or_lt}

-- the numbers of a point are better at a variable than those of the best so far, if there is one
abbrev pub IsAhead : {A : Type 0} → (A → List ℤ) → Wanted → ℕ → Option A → List ℤ → Type 0
IsAhead read wanted variable best point = IfSome best (λ p. IsBetter wanted (coordinate (read p) variable) (coordinate point variable))

-- what is left are the solutions that are better than the best so far
pub record AreAhead {A : Type 0} (read : A → List ℤ) (wanted : Wanted) (variable : ℕ) (solves : List ℤ → Type 0) (best : Option A) (rest : List ℤ → Type 0) : Type 0 where
  pub sound : IfSome best (λ p. solves (read p))
  pub inward : (point : List ℤ) → rest point → solves point
  pub ahead : (point : List ℤ) → rest point → IsAhead read wanted variable best point
  pub outward : (point : List ℤ) → solves point → IsAhead read wanted variable best point → rest point

better_still : (wanted : Wanted) (a b c : ℤ) → IsBetter wanted a b → IsBetter wanted b c → IsBetter wanted a c
better_still Least a b c h k = omega (arith, ints)
better_still Greatest a b c h k = omega (arith, ints)

-- a number is as good as another, or worse
pub good_or_worse : (wanted : Wanted) (value v : ℤ) → IsAsGood wanted value v ⊎ IsBetter wanted v value
good_or_worse Least value v = le_or_lt v value
good_or_worse Greatest value v = le_or_lt value v

best_if_none_better : (wanted : Wanted) (variable : ℕ) (solves : List ℤ → Type 0) (point : List ℤ)
    → ((other : List ℤ) → solves other → IsBetter wanted (coordinate point variable) (coordinate other variable) → ⊥) → IsBestAt wanted variable solves point
best_if_none_better Least variable solves point none = λ other s.
    elim (le_or_lt (coordinate point variable) (coordinate other variable)) [ inl le ↦ le | inr lt ↦ absurd (none other s lt) ]
best_if_none_better Greatest variable solves point none = λ other s.
    elim (le_or_lt (coordinate other variable) (coordinate point variable)) [ inl le ↦ le | inr lt ↦ absurd (none other s lt) ]

-- the number of a point at a variable, from the value at that place
pub number_at : {A : Type 0} (value : A → ℤ) (point : List A) (variable : ℕ) (x : A) → variable < length point → x ≡ get_or point variable x
    → coordinate (map value point) variable ≡ value x
number_at value point variable x lt is = get_or-map value point variable x (pos 0) lt ∙ ap value (sym is)

-- at first all are left
pub ahead_at_first : {A : Type 0} (read : A → List ℤ) (wanted : Wanted) (variable : ℕ) (solves : List ℤ → Type 0) → AreAhead read wanted variable solves None solves
ahead_at_first read wanted variable solves = record {
  sound = tt;
  inward = λ point h. h;
  ahead = λ point h. tt;
  outward = λ point s h. s;
}

-- narrowing loses none
pub ahead_after : {A : Type 0} (read : A → List ℤ) (wanted : Wanted) (variable : ℕ) (solves : List ℤ → Type 0) (best : Option A) (rest less : List ℤ → Type 0)
    → AreAhead read wanted variable solves best rest → ((point : List ℤ) → rest point ↔ less point) → AreAhead read wanted variable solves best less
ahead_after read wanted variable solves best rest less l same = record {
  sound = l.sound;
  inward = λ point h. l.inward point ((same point).1 h);
  ahead = λ point h. l.ahead point ((same point).1 h);
  outward = λ point s h. (same point).0 (l.outward point s h);
}

-- nor does a cut to the part where all are
pub ahead_in_part : {A : Type 0} (read : A → List ℤ) (wanted : Wanted) (variable : ℕ) (solves : List ℤ → Type 0) (best : Option A) (rest less in_part : List ℤ → Type 0)
    → AreAhead read wanted variable solves best rest → ((point : List ℤ) → rest point → in_part point) → ((point : List ℤ) → less point ↔ (rest point × in_part point))
    → AreAhead read wanted variable solves best less
ahead_in_part read wanted variable solves best rest less in_part l all same =
    ahead_after read wanted variable solves best rest less l (λ point. ((λ h. (same point).1 (h, all point h)), (λ h. ((same point).0 h).0)))

ahead_of_both : {A : Type 0} (read : A → List ℤ) (wanted : Wanted) (variable : ℕ) (best : Option A) (point other : List ℤ) → IsAhead read wanted variable best point
    → IsBetter wanted (coordinate point variable) (coordinate other variable) → IsAhead read wanted variable best other
ahead_of_both read wanted variable None point other h k = tt
ahead_of_both read wanted variable (Some p) point other h k = better_still wanted (coordinate (read p) variable) (coordinate point variable) (coordinate other variable) h k

-- one of those that are left is the best so far, and those that are better are left
pub ahead_of_next : {A : Type 0} (read : A → List ℤ) (wanted : Wanted) (variable : ℕ) (solves : List ℤ → Type 0) (best : Option A) (rest less : List ℤ → Type 0) (next : A)
    → AreAhead read wanted variable solves best rest → rest (read next)
    → ((point : List ℤ) → less point ↔ (rest point × IsBetter wanted (coordinate (read next) variable) (coordinate point variable)))
    → AreAhead read wanted variable solves (Some next) less
ahead_of_next read wanted variable solves best rest less next l here same = record {
  sound = l.inward (read next) here;
  inward = λ point h. l.inward point ((same point).0 h).0;
  ahead = λ point h. ((same point).0 h).1;
  outward = λ point s better. (same point).1 (l.outward point s (ahead_of_both read wanted variable best (read next) point (l.ahead (read next) here) better), better);
}

some_read : {A : Type 0} (read : A → List ℤ) (P : List ℤ → Type 0) (best : Option A) → IfSome best (λ p. P (read p)) → IfSome (option_map read best) P
some_read read P None h = tt
some_read read P (Some p) h = h

-- and is one solution more
pub improves_to_next : {A : Type 0} (read : A → List ℤ) (wanted : Wanted) (variable : ℕ) (solves : List ℤ → Type 0) (best : Option A) (rest : List ℤ → Type 0) (next : A) (n : ℕ)
    → AreAhead read wanted variable solves best rest → rest (read next) → ImprovesTo (λ old new. IsBetter wanted old new) variable solves n (option_map read best)
    → ImprovesTo (λ old new. IsBetter wanted old new) variable solves (suc n) (Some (read next))
improves_to_next read wanted variable solves best rest next n l here so_far = (
  l.inward (read next) here,
  (
    option_map read best,
    so_far,
    some_read read (λ e. IsBetter wanted (coordinate e variable) (coordinate (read next) variable)) best (l.ahead (read next) here),
  ),
)

-- where a point was found, no limit is 0
pub some_improved : {A : Type 0} (read : A → List ℤ) (better : ℤ → ℤ → Type 0) (variable : ℕ) (solves : List ℤ → Type 0) (best : Option A) (n left solutions rest nodes : ℕ)
    → ImprovesTo better variable solves n (option_map read best) → n + left ≡ solutions → n + rest ≤ nodes → IfSome best (λ _. (1 ≤ solutions) × (1 ≤ nodes))
some_improved read better variable solves None n left solutions rest nodes h counted visited = tt
some_improved read better variable solves (Some p) zero left solutions rest nodes h counted visited = absurd (cc)
some_improved read better variable solves (Some p) (suc n) left solutions rest nodes h counted visited = (omega (arith, counted), omega (arith, visited))

-- the same solutions
pub improves_within : (better : ℤ → ℤ → Type 0) (variable : ℕ) (solves more : List ℤ → Type 0) → ((point : List ℤ) → solves point → more point) → (n : ℕ) (point : Option (List ℤ))
    → ImprovesTo better variable solves n point → ImprovesTo better variable more n point
improves_within better variable solves more within zero point h = h
improves_within better variable solves more within (suc n) None h = absurd h
improves_within better variable solves more within (suc n) (Some point) h =
    (within point h.0, (h.1.0, improves_within better variable solves more within n h.1.0 h.1.1, h.1.2))

-- where none is left, no solution is better
pub best_at_end : {A : Type 0} (read : A → List ℤ) (wanted : Wanted) (variable : ℕ) (solves : List ℤ → Type 0) (best : Option A) (rest : List ℤ → Type 0)
    → AreAhead read wanted variable solves best rest → ((point : List ℤ) → rest point → ⊥) → IfSome best (λ p. IsBestAt wanted variable solves (read p))
best_at_end read wanted variable solves None rest l none = tt
best_at_end read wanted variable solves (Some p) rest l none = best_if_none_better wanted variable solves (read p) (λ other s better. none other (l.outward other s better))

-- and there is none at all if none was found
pub none_at_end : {A : Type 0} (read : A → List ℤ) (wanted : Wanted) (variable : ℕ) (solves : List ℤ → Type 0) (best : Option A) (rest : List ℤ → Type 0)
    → AreAhead read wanted variable solves best rest → ((point : List ℤ) → rest point → ⊥) → IfNone best ((point : List ℤ) → solves point → ⊥)
none_at_end read wanted variable solves None rest l none = λ point s. none point (l.outward point s tt)
none_at_end read wanted variable solves (Some p) rest l none = tt
