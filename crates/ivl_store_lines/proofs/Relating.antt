-- Rules that are required one by one, and rules between variables that have names.
use Rattle.std.proofs.Common.{◌≡◌, ◌∙◌, ◌<◌, ◌+◌, ◌++◌, ◌∷◌, [], ℕ, Bool, true, false, List, Option, None, Some, ap, get_or, length, map, refl, subst, sym, take}
use Rattle.std.specs.Prelude.{All, bytes_eq, option_map, pos}
use Rattle.std.specs.List.{list_any}
use Rattle.std.proofs.lemmas.Bool.{or_parts, true≢false}
use Rattle.std.proofs.lemmas.List.{take_more}
use Rattle.std.proofs.lemmas.List.Elements.{All-append, All-cons, All-nil}
use Rattle.std.proofs.lemmas.List.Quantifiers.{position-Some}
use Rattle.std.proofs.lemmas.Slice.Eq.{bytes_eq-Decides}
use Rattle.ivl_rules.specs.declared.rules.Rule.{Rule}
use Rattle.ivl_rules.specs.declared.rules.Rule.TheVariants as rule
use Rattle.ivl_rules.specs.Rules.{AreDifferent}
use Rattle.ivl_network.specs.Network.{IsRuleRequired}
use Rattle.ivl_store_lines.specs.Required.{AreRequired, each_pair}
use Rattle.ivl_store_lines.specs.Solving.{repeated_name, variable_named, variables_named}

required_last : (rules : List Rule) (last : Rule) (old now new : List Rule) → AreRequired rules old now → IsRuleRequired last now new → AreRequired (rules ++ last ∷ []) old new
required_last [] last old now new same one = (new, subst (λ rules. IsRuleRequired last rules new) same one, refl)
required_last (first ∷ rules) last old now new (next, before, others) one = (next, before, required_last rules last next now new others one)

-- one more of the rules is required
pub required_more : (rules : List Rule) (k : ℕ) (d : Rule) (old now new : List Rule) → k < length rules → AreRequired (take k rules) old now → IsRuleRequired (get_or rules k d) now new
    → AreRequired (take (k + 1) rules) old new
required_more rules k d old now new lt so_far one =
    subst (λ front. AreRequired front old new) (sym (take_more rules k d lt)) (required_last (take k rules) (get_or rules k d) old now new so_far one)

-- nothing was found
pub none_found : {A B : Type 0} → (f : A → B) (o : Option A) (found : Option B) → option_map f o ≡ found → o ≡ None → found ≡ None
none_found f None found e is = sym e
none_found f (Some x) found e is = absurd (cc)

-- names of one variable are one name
same_name : (known : List (List ℕ)) (name other : List ℕ) (i : ℕ) → variable_named known name ≡ Some i → variable_named known other ≡ Some i → bytes_eq name other ≡ true
same_name known name other i is also =
    let here = (bytes_eq-Decides (get_or known i []) name).0 (position-Some (λ k. bytes_eq k name) known i [] is).1 in
    let there = (bytes_eq-Decides (get_or known i []) other).0 (position-Some (λ k. bytes_eq k other) known i [] also).1 in
    (bytes_eq-Decides name other).1 (sym here ∙ there)

-- so one that does not stand among others names none of their variables
apart_from : (known : List (List ℕ)) (name : List ℕ) (i : ℕ) (others : List (List ℕ)) → variable_named known name ≡ Some i → list_any (λ other. bytes_eq name other) others ≡ false
    → All AreDifferent (map (λ y. rule.Differs i y (pos 0)) (variables_named known others))
apart_from known name i [] is none = All-nil AreDifferent
apart_from known name i (other ∷ others) is none =
    let parts = or_parts (bytes_eq name other) (list_any (λ o. bytes_eq name o) others) none in
    with_one (variable_named known other) refl parts.0 (apart_from known name i others is parts.1)
  where
    with_one : (found : Option ℕ) → variable_named known other ≡ found → bytes_eq name other ≡ false → All AreDifferent (map (λ y. rule.Differs i y (pos 0)) (variables_named known others))
        → All AreDifferent (map (λ y. rule.Differs i y (pos 0)) (variables_named known (other ∷ others)))
    with_one None e apart all = rw e all
    with_one (Some j) e apart all =
        rw e (All-cons AreDifferent (rule.Differs i j (pos 0)) (map (λ y. rule.Differs i y (pos 0)) (variables_named known others))
        (λ same. true≢false (sym (same_name known name other i is (e ∙ ap Some (sym same))) ∙ apart)) all)

-- names that stand once are those of different variables
pub pairs_different : (known names : List (List ℕ)) → repeated_name names ≡ None → All AreDifferent (each_pair (variables_named known names))
pairs_different known [] once = All-nil AreDifferent
pairs_different known (name ∷ names) once = with_first (list_any (λ other. bytes_eq name other) names) refl (variable_named known name) refl (pairs_different known names)
  where
    with_first : (again : Bool) → list_any (λ other. bytes_eq name other) names ≡ again → (found : Option ℕ) → variable_named known name ≡ found
        → (repeated_name names ≡ None → All AreDifferent (each_pair (variables_named known names))) → All AreDifferent (each_pair (variables_named known (name ∷ names)))
    with_first true e found is rest = absurd (some_is_none (subst (λ o. o ≡ None) (rw e refl) once))
      where
        some_is_none : Some name ≡ None → ⊥
        some_is_none e = absurd (cc)
    with_first false e None is rest = rw is (rest (subst (λ o. o ≡ None) (rw e refl) once))
    with_first false e (Some i) is rest =
        rw is (All-append AreDifferent (map (λ y. rule.Differs i y (pos 0)) (variables_named known names)) (each_pair (variables_named known names))
        (apart_from known name i names is e)
        (rest (subst (λ o. o ≡ None) (rw e refl) once)))
