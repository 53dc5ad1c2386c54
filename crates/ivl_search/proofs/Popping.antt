-- The last of the points that are kept, and what a half without one leaves.
use Rattle.std.proofs.Common.{◌≡◌, ◌<◌, ℕ, Bool, true, false, [], ◌∷◌, ◌++◌, List, ap, get_or, length, map, refl, subst, sym, ◌∙◌, arith}
use Rattle.std.specs.Prelude.{ℤ, All, Contains, Option, Some, None, IfNone, IfSome, IsSome, MatchOption, if◌then◌else◌, nat_le}
use Rattle.std.specs.Option.{option_or, option_to_list}
use Rattle.std.proofs.lemmas.Bool.{false≢true, leb-false}
use Rattle.std.proofs.lemmas.List.{get_or_default, map_push}
use Rattle.std.proofs.lemmas.List.Elements.{All-contains, Contains-push}
use Rattle.ivl_laws.specs.Runs.{Covers}
use Rattle.ivl_laws.specs.Sets.{HasNone}
use Rattle.ivl_rules.specs.declared.rules.Rule.{Rule}
use Rattle.ivl_search.specs.Points.{SolvesRules, first_unknown_of_rules, first_unknown_or_rules}
use Rattle.ivl_search.proofs.Cuts.{none_solves}

-- there is no last one only if there are none
pub none_popped : {A : Type 0} (read : A → List ℤ) (last : Option A) (before : List A) (points : List (List ℤ)) (P : Type 0)
    → (0 < length before → IsSome last) → map read before ≡ points → (points ≡ [] → P) → IfNone last P
none_popped read None [] points P some mapped none = none (sym mapped)
none_popped read None (x ∷ xs) points P some mapped none = absurd (false≢true (some (omega arith)))
none_popped read (Some p) before points P some mapped none = tt

pub if_some : {A : Type 0} (o : Option A) (P : Type 0) (Q : A → Type 0) → MatchOption o P Q → IfSome o Q
if_some None P Q h = tt
if_some (Some x) P Q h = h

pub if_none : {A : Type 0} (o : Option A) (P R : Type 0) (Q : A → Type 0) → MatchOption o P Q → (P → R) → IfNone o R
if_none None P R Q h f = f h
if_none (Some x) P R Q h f = tt

-- no point gives an empty domain a member
pub empty_solves : (rules : List Rule) (sets : List (List (ℤ × ℤ))) (variable : ℕ) (domain : List (ℤ × ℤ)) → variable < length sets
    → domain ≡ get_or sets variable domain → HasNone (Covers domain) → (point : List ℤ) → SolvesRules rules sets point → ⊥
empty_solves rules sets variable domain lt is none = none_solves rules sets (record {
  variable = variable;
  known = lt;
  empty = λ v h. none v (subst (λ s. Covers s v) (sym (is ∙ get_or_default sets variable domain [] lt)) h);
})

none_of_two : (o : Option ℕ) (b : Bool) (v : ℕ) → option_or o (if b then Some v else None) ≡ None → b ≡ false
none_of_two None false v e = refl
none_of_two None true v e = cc
none_of_two (Some i) b v e = cc

-- a variable that is not told as unknown is known
pub known_variable : (variable count : ℕ) (rules : List Rule) → first_unknown_or_rules variable count rules ≡ None → variable < count
known_variable variable count rules e = leb-false count variable (none_of_two (first_unknown_of_rules count rules) (nat_le count variable) variable e)

-- what holds of all points holds of the last
pub all_of_last : {A : Type 0} (read : A → List ℤ) (last : Option A) (before items : List A) (points : List (List ℤ)) (P : List ℤ → Type 0)
    → items ≡ before ++ option_to_list last → map read items ≡ points → All P points → IfSome last (λ x. P (read x))
all_of_last read None before items points P is mapped all = tt
all_of_last read (Some x) before items points P is mapped all =
    let e : points ≡ map read before ++ read x ∷ [] = sym mapped ∙ ap (map read) is ∙ map_push read before x in
    All-contains P points (read x) all (subst (λ ps. Contains ps (read x)) (sym e) (Contains-push (map read before) (read x)))

pub if_some_always : {A : Type 0} (o : Option A) (P : Type 0) → P → IfSome o (λ x. P)
if_some_always None P h = tt
if_some_always (Some x) P h = h
