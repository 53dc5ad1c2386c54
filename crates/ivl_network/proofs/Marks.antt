-- Whether all rules were settled at the marks of a network.
use Rattle.std.proofs.Common.{◌≡◌, ◌∙◌, ℕ, ◌<◌, inl, inr, ap, arith, get_or, length, List, [], ◌∷◌, ◌++◌, Bool, true, false, refl, subst, sym, take}
use Rattle.std.specs.Prelude.{◌==◌, ◌↔◌, ℤ, IsTrue, map, not}
use Rattle.ivl_laws.specs.Families.{set_at}
use Rattle.ivl_network.specs.Settled.{claimed_flags}
use Rattle.ivl_network.proofs.Settled.{claimed_length, claimed_settled}
use Rattle.std.proofs.Math.ListN.{get_or-append}
use Rattle.std.proofs.lemmas.Bool.{cases_eq, false≢true}
use Rattle.std.proofs.lemmas.Bool.Decides.{nat_tests}
use Rattle.std.proofs.lemmas.List.{get_or-map, get_or_push, length-map, length-take, length_push}
use Rattle.ivl_rules.specs.declared.rules.Rule.{Rule}
use Rattle.ivl_network.specs.declared.network.change.Change.{Change}
use Rattle.ivl_network.specs.Network.{IsSoundRules}
use Rattle.ivl_network.specs.Trail.{AreFixedIn, AreSettledMarks, RulesPast, rules_past_at}
use Rattle.ivl_network.proofs.Trails.{take_lt}

-- where the marks are the same
pub marks_same : (flags : List Bool) (marked marked' : List RulesPast) → AreSettledMarks flags marked → marked' ≡ marked → AreSettledMarks flags marked'
marks_same flags marked marked' s e = subst (AreSettledMarks flags) (sym e) s

-- one more mark
pub one_more_mark : (flags : List Bool) (marked marked' : List RulesPast) (flag : Bool) (now : RulesPast) → AreSettledMarks flags marked
    → marked' ≡ marked ++ now ∷ [] → (flag ≡ true → AreFixedIn now) → AreSettledMarks (flags ++ flag ∷ []) marked'
one_more_mark flags marked marked' flag now s e f = subst (AreSettledMarks (flags ++ flag ∷ [])) (sym e) (record {
  one_each = (let a = length_push flags flag in let b = length_push marked now in let n = s.one_each in omega (arith, a, b, n));
  fixed = (λ k d lt set. elim (cases_eq k (length marked)) [
    | inl here ↦ subst AreFixedIn (sym (get_or_push marked now d k (sym here))) (f (sym (get_or_push flags flag false k (s.one_each ∙ sym here)) ∙ set))
    | inr ne ↦ (let b = length_push marked now in let below : k < length marked = omega (arith, b, lt, ne) in
        subst AreFixedIn (sym (get_or-append marked (now ∷ []) d k below))
        (s.fixed k d below (sym (get_or-append flags (flag ∷ []) false k (let n = s.one_each in omega (arith, n, below))) ∙ set)))
  ]);
})

-- the first marks
pub fewer_marks : (flags : List Bool) (marked marked' : List RulesPast) (n : ℕ) → AreSettledMarks flags marked → marked' ≡ take n marked → AreSettledMarks (take n flags) marked'
fewer_marks flags marked marked' n s e = subst (AreSettledMarks (take n flags)) (sym e) (record {
  one_each = (let a = length-take n flags in let b = length-take n marked in let m = s.one_each in omega (arith, a, b, m));
  fixed = (λ k d lt set.
      let a = length-take n flags in let b = length-take n marked in let m = s.one_each in
      let t = take_lt n k marked lt in
      let u = take_lt n k flags (omega (arith, a, b, m, lt)) in
      subst AreFixedIn (sym (t.2 d)) (s.fixed k d t.0 (sym (u.2 false) ∙ set)));
})

-- what the flag of a mark says
pub fixed_at : {B O : Type 0} (flags : List Bool) (marks : List ℕ) (trail : List (Change B O)) (now : RulesPast) (n start : ℕ)
    → AreSettledMarks flags (map (rules_past_at trail now) marks) → n < length marks → start ≡ get_or marks n 0 → get_or flags n false ≡ true → AreFixedIn (rules_past_at trail now start)
fixed_at flags marks trail now n start s lt at set =
    let m = length-map marks (rules_past_at trail now) in
    subst AreFixedIn (get_or-map (rules_past_at trail now) marks n 0 now lt ∙ ap (rules_past_at trail now) (sym at)) (s.fixed n now (omega (arith, m, lt)) set)

-- any flags are sound then
sound_fixed : (domains : List (List (ℤ × ℤ))) (rules : List Rule) (flags flags' : List Bool) → IsSoundRules domains rules flags → length flags' ≡ length flags
    → AreFixedIn (record { domains = domains; rules = rules }) → IsSoundRules domains rules flags'
sound_fixed domains rules flags flags' s count f = record {
  different = s.different;
  present = s.present;
  settled = record {
    one_each = count ∙ s.settled.one_each;
    fixed = (λ k d lt _. f k d lt);
  };
}

pub sound_settled : (domains : List (List (ℤ × ℤ))) (rules : List Rule) (flags flags' : List Bool) (are_settled : Bool)
    → IsSoundRules domains rules (claimed_flags (not are_settled) flags) → length flags' ≡ length flags
    → (are_settled ≡ false → flags' ≡ flags) → (are_settled ≡ true → AreFixedIn (record { domains = domains; rules = rules })) → IsSoundRules domains rules flags'
sound_settled domains rules flags flags' true s count same f = sound_fixed domains rules (claimed_flags false flags) flags' s (count ∙ sym (claimed_length false flags)) (f refl)
sound_settled domains rules flags flags' false s count same f = subst (IsSoundRules domains rules) (sym (same refl)) s

-- flags that claim less
pub sound_claimed : (claims : Bool) (domains : List (List (ℤ × ℤ))) (rules : List Rule) (flags : List Bool) → IsSoundRules domains rules flags
    → IsSoundRules domains rules (claimed_flags claims flags)
sound_claimed claims domains rules flags s = record {
  different = s.different;
  present = s.present;
  settled = claimed_settled claims rules flags (set_at domains) s.settled;
}

-- no flag is left unset
pub none_left : (empty : Bool) (count : ℕ) → IsTrue empty ↔ (count ≡ 0) → empty ≡ (count == 0)
none_left true count e = is_zero count (e.0 refl)
  where
    is_zero : (n : ℕ) → n ≡ 0 → true ≡ (n == 0)
    is_zero n z = grind (arith, nat_tests)
none_left false count e = is_some count (λ z. false≢true (e.1 z))
  where
    is_some : (n : ℕ) → (n ≡ 0 → ⊥) → false ≡ (n == 0)
    is_some n z = grind (arith, nat_tests)
