-- What taking a change back leaves of a network.
use Rattle.std.proofs.Common.{◌≡◌, ◌↔◌, ◌⊎◌, ◌∙◌, ◌-◌, ◌<◌, ◌≤◌, inl, inr, ℕ, ap, append_assoc, arith, drop, get_or, length, List, [], ◌∷◌, ◌++◌, Bool, true, false, refl, min, set, subst, sym, take}
use Rattle.std.specs.Prelude.{ℤ, All}
use Rattle.std.proofs.lemmas.Bool.{false≢true}
use Rattle.std.proofs.Math.Seq.{drop-append_seam, take-append_seam}
use Rattle.std.proofs.lemmas.List.{append-nil, get_or-set_other, length-set, length-take, length_push}
use Rattle.ivl_laws.specs.Families.{set_at}
use Rattle.ivl_laws.specs.Runs.{Covers}
use Rattle.ivl_rules.proofs.Narrowings.{HasPointAt-mono}
use Rattle.ivl_network.specs.declared.network.change.Change.{Change}
use Rattle.ivl_network.specs.declared.network.change.Change.TheVariants.{Variable, Require}
use Rattle.ivl_rules.specs.declared.rules.Rule.{Rule}
use Rattle.ivl_network.specs.Families.{ArePresent, IsFixedBy}
use Rattle.ivl_network.specs.Network.{IsSoundRules}
use Rattle.ivl_network.specs.Settled.{AreClearedRules}
use Rattle.ivl_network.proofs.Settled.{names_or_not}
use Rattle.ivl_rules.specs.Rules.{AreDifferent, NamesOf}
use Rattle.ivl_network.specs.Trail.{RulesPast, revert_rule, reverted_rules, rules_past_at}
use Rattle.ivl_network.proofs.Trails.{take_lt}
use Rattle.ivl_network.proofs.Families.{named_present}

-- what is left to be taken back of all changes, and what those that were taken back were made to
pub record RevertedSoFar {B O : Type 0} (all left : List (Change B O)) (before now : RulesPast) (start : ℕ) (flags : List Bool) : Type 0 where
  pub rest : List (Change B O)
  pub all_are : all ≡ left ++ rest
  pub now_is : now ≡ reverted_rules rest before
  pub sound : IsSoundRules now.domains now.rules flags
  pub low : start ≤ length left

pub none_reverted : {B O : Type 0} (all : List (Change B O)) (now : RulesPast) (start : ℕ) (flags : List Bool) → start ≤ length all
    → IsSoundRules now.domains now.rules flags → RevertedSoFar all all now now start flags
none_reverted all now start flags low sound = record { rest = []; all_are = sym (append-nil all); now_is = refl; sound = sound; low = low }

-- the change that is taken back next
seam : {B O : Type 0} (all left left' : List (Change B O)) (change : Change B O) (before now : RulesPast) (start : ℕ) (flags : List Bool)
    → (s : RevertedSoFar all left before now start flags) → left ≡ left' ++ change ∷ [] → all ≡ left' ++ (change ∷ s.rest)
seam all left left' change before now start flags s e = s.all_are ∙ ap (λ l. l ++ s.rest) e ∙ append_assoc left' (change ∷ []) s.rest

pub next_past : {B O : Type 0} (all left left' : List (Change B O)) (change : Change B O) (before now : RulesPast) (start : ℕ) (flags : List Bool)
    → RevertedSoFar all left before now start flags → left ≡ left' ++ change ∷ [] → rules_past_at all before (length left') ≡ revert_rule change now
next_past all left left' change before now start flags s e =
    ap (λ cs. reverted_rules (drop (length left') cs) before) (seam all left left' change before now start flags s e)
    ∙ ap (λ cs. reverted_rules cs before) (drop-append_seam left' (change ∷ s.rest))
    ∙ ap (revert_rule change) (sym s.now_is)

pub one_reverted : {B O : Type 0} (all left left' : List (Change B O)) (change : Change B O) (before now now' : RulesPast) (start : ℕ) (flags flags' : List Bool)
    → RevertedSoFar all left before now start flags → left ≡ left' ++ change ∷ [] → start < length left → now' ≡ revert_rule change now
    → IsSoundRules now'.domains now'.rules flags' → RevertedSoFar all left' before now' start flags'
one_reverted all left left' change before now now' start flags flags' s e lt back sound = record {
  rest = change ∷ s.rest;
  all_are = seam all left left' change before now start flags s e;
  now_is = back ∙ ap (revert_rule change) s.now_is;
  sound = sound;
  low = (let n = length_push left' change in let l = ap length e in omega (arith, n, l, lt));
}

-- all since the start
pub all_taken : {B O : Type 0} (all left : List (Change B O)) (before now : RulesPast) (start : ℕ) (flags : List Bool)
    → RevertedSoFar all left before now start flags → length left ≤ start → left ≡ take start all
all_taken all left before now start flags s high =
    let e : start ≡ length left = (let l = s.low in omega (arith, l, high)) in
    rw (e, s.all_are) (sym (take-append_seam left s.rest))

pub all_past : {B O : Type 0} (all left : List (Change B O)) (before now : RulesPast) (start : ℕ) (flags : List Bool)
    → RevertedSoFar all left before now start flags → length left ≤ start → now ≡ rules_past_at all before start
all_past all left before now start flags s high =
    let e : start ≡ length left = (let l = s.low in omega (arith, l, high)) in
    s.now_is ∙ ap (λ cs. reverted_rules cs before) (sym (drop-append_seam left s.rest))
    ∙ ap (λ cs. reverted_rules (drop (length left) cs) before) (sym s.all_are) ∙ ap (λ k. rules_past_at all before k) (sym e)

-- ---- the network after each change

-- a rule stays fixed where the sets that it names stay
fixed_where_same : (rule : Rule) (before after : ℕ → ℤ → Type 0) → ((i : ℕ) → NamesOf rule i → (v : ℤ) → after i v ↔ before i v) → IsFixedBy before rule → IsFixedBy after rule
fixed_where_same rule before after same f i v h = record {
  kept = h;
  supported = (λ named. HasPointAt-mono rule before after (λ j names w u. (same j names w).1 u) i v ((f i v ((same i named v).0 h)).supported named));
}

-- a set takes the place of a domain, and a rule that names the variable is settled only where narrowing changes nothing
pub sound_replaced : (sets : List (List (ℤ × ℤ))) (rules : List Rule) (flags flags' : List Bool) (i : ℕ) (s : List (ℤ × ℤ))
    → IsSoundRules sets rules flags → AreClearedRules true false false rules i (set_at (set sets i s)) flags flags' → IsSoundRules (set sets i s) rules flags'
sound_replaced sets rules flags flags' i s n cleared = record {
  different = n.different;
  present = subst (λ count. All (ArePresent count) rules) (sym (length-set sets i s)) n.present;
  settled = record {
    one_each = cleared.same_count ∙ n.settled.one_each;
    fixed = (λ k d lt m. elim (apart_of k d lt m) [
      | inl f ↦ f
      | inr other ↦ fixed_where_same (get_or rules k d) (set_at sets) (set_at (set sets i s))
          (λ j names v.
          let e = get_or-set_other sets i j s [] (λ at. other (subst (NamesOf (get_or rules k d)) at names)) in
          (subst (λ L. Covers L v) e, subst (λ L. Covers L v) (sym e)))
          (n.settled.fixed k d lt (cleared.only_cleared k m))
    ]);
  };
}
  where
    apart_of : (k : ℕ) (d : Rule) → k < length rules → get_or flags' k false ≡ true
        → IsFixedBy (set_at (set sets i s)) (get_or rules k d) ⊎ (NamesOf (get_or rules k d) i → ⊥)
    apart_of k d lt m = elim (names_or_not (get_or rules k d) i) [
      | inr other ↦ inr other
      | inl named ↦ elim (cleared.apart refl k d lt m named) [
        | inl f ↦ inl f
        | inr grown ↦ absurd (false≢true grown.0)
      ]
    ]

-- the last variable is dropped, which no rule names
pub sound_without_variable : (sets : List (List (ℤ × ℤ))) (rules : List Rule) (flags : List Bool) (count : ℕ)
    → IsSoundRules sets rules flags → All (ArePresent (length (take count sets))) rules → IsSoundRules (take count sets) rules flags
sound_without_variable sets rules flags count n present = record {
  different = n.different;
  present = present;
  settled = record {
    one_each = n.settled.one_each;
    fixed = (λ k d lt m. fixed_where_same (get_or rules k d) (set_at sets) (set_at (take count sets))
        (λ j names v.
        let e = (take_lt count j sets (below k d lt j names)).2 [] in
        (subst (λ L. Covers L v) e, subst (λ L. Covers L v) (sym e)))
        (n.settled.fixed k d lt m));
  };
}
  where
    below : (k : ℕ) (d : Rule) → k < length rules → (j : ℕ) → NamesOf (get_or rules k d) j → j < length (take count sets)
    below k d lt = named_present (length (take count sets)) (get_or rules k d) (present k d lt)

-- the last rules are dropped, and their flags
pub sound_without_rules : (sets : List (List (ℤ × ℤ))) (rules : List Rule) (flags : List Bool) (count : ℕ)
    → IsSoundRules sets rules flags → IsSoundRules sets (take count rules) (take count flags)
sound_without_rules sets rules flags count n = record {
  different = (λ k d lt. let t = take_lt count k rules lt in subst AreDifferent (sym (t.2 d)) (n.different k d t.0));
  present = (λ k d lt. let t = take_lt count k rules lt in subst (ArePresent (length sets)) (sym (t.2 d)) (n.present k d t.0));
  settled = record {
    one_each = length-take count flags ∙ ap (λ m. min count m) n.settled.one_each ∙ sym (length-take count rules);
    fixed = (λ k d lt m.
        let t = take_lt count k rules lt in
        let e : get_or (take count flags) k false ≡ get_or flags k false =
        (take_lt count k flags (let a = length-take count flags in let b = length-take count rules in let o = n.settled.one_each in omega (arith, a, b, o, lt))).2 false in
        subst (IsFixedBy (set_at sets)) (sym (t.2 d)) (n.settled.fixed k d t.0 (sym e ∙ m)));
  };
}

-- ---- what a change was made to

pub reverts_variable : {B O : Type 0} (change : Change B O) (sets sets' : List (List (ℤ × ℤ))) (domain : List (ℤ × ℤ)) (rules : List Rule)
    → change ≡ Variable → sets' ≡ sets ++ domain ∷ [] → revert_rule change (record { domains = sets'; rules = rules }) ≡ record { domains = sets; rules = rules }
reverts_variable change sets sets' domain rules e f =
    let n = length_push sets domain in
    let l : length (sets ++ domain ∷ []) - 1 ≡ length sets = omega (arith, n) in
    rw (e, f) (ap (λ (s : List (List (ℤ × ℤ))). record { domains = s; rules = rules }) (ap (λ k. take k (sets ++ domain ∷ [])) l ∙ take-append_seam sets (domain ∷ [])))

pub reverts_rule : {B O : Type 0} (change : Change B O) (sets : List (List (ℤ × ℤ))) (rules rules' : List Rule) (c : Rule)
    → change ≡ Require → rules' ≡ rules ++ c ∷ [] → revert_rule change (record { domains = sets; rules = rules' }) ≡ record { domains = sets; rules = rules }
reverts_rule change sets rules rules' c e f =
    let n = length_push rules c in
    let l : length (rules ++ c ∷ []) - 1 ≡ length rules = omega (arith, n) in
    rw (e, f) (ap (λ (cs : List Rule). record { domains = sets; rules = cs }) (ap (λ k. take k (rules ++ c ∷ [])) l ∙ take-append_seam rules (c ∷ [])))
