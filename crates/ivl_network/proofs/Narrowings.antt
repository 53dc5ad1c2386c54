-- What the narrowings of a network leave, one after the other.
use Rattle.std.proofs.Common.{◌≡◌, ◌↔◌, ℕ, ◌+◌, ◌<◌, ◌≤◌, refl, sym, subst, arith, List, [], ◌∷◌, ◌++◌, length, length-append, get_or, Bool, true, false}
use Rattle.std.specs.Prelude.{ℤ, All, Contains, Result, Ok, Err, OnOk, OnErr}
use Rattle.std.proofs.Math.ListN.{get_or-append}
use Rattle.std.proofs.lemmas.List.{get_or_default, length_push}
use Rattle.std.proofs.lemmas.List.Elements.{All-append, All-cons, All-get_or, All-nil, All-weaker}
use Rattle.ivl_laws.specs.Families.{set_at}
use Rattle.ivl_laws.specs.Runs.{Covers}
use Rattle.ivl_store.specs.Solutions.{LiesWithin}
use Rattle.ivl_store.proofs.Lists.{All-head, All-rest}
use Rattle.ivl_rules.specs.declared.rules.Rule.{Rule}
use Rattle.ivl_rules.specs.Rules.{AreDifferent, NarrowedBy, SupportsAll}
use Rattle.ivl_rules.proofs.Narrowings.{HasPointAt-mono, NarrowedBy-mono, narrowing_keeps}
use Rattle.ivl_network.specs.Families.{AllSupport, ArePresent, IsCommonPoint, IsFixedBy, IsGreatestUnder, KeepsUnder}
use Rattle.ivl_network.specs.Network.{AreRuleNarrowings, AreNarrowedTo, IsSoundRules, RulesState, work_of_rules}
use Rattle.ivl_network.specs.Rounds.{narrowed_by_rules}
use Rattle.ivl_network.specs.Settled.{AreSettledRules}
use Rattle.ivl_network.proofs.Families.{fixed_greatest, named_present}
use Rattle.ivl_network.proofs.Points.{points_kept}
use Rattle.ivl_network.proofs.Settled.{settled_push}

-- a larger family is left larger
narrowed-mono : (rules : List Rule) (inner outer : ℕ → ℤ → Type 0) → LiesWithin inner outer
    → LiesWithin (narrowed_by_rules rules inner) (narrowed_by_rules rules outer)
narrowed-mono [] inner outer w = w
narrowed-mono (rule ∷ rules) inner outer w = narrowed-mono rules (NarrowedBy rule inner) (NarrowedBy rule outer) (NarrowedBy-mono rule inner outer w)

-- narrowing by one list and then by another
narrowed-append : (rules more : List Rule) (sets : ℕ → ℤ → Type 0)
    → (i : ℕ) (v : ℤ) → narrowed_by_rules (rules ++ more) sets i v ↔ narrowed_by_rules more (narrowed_by_rules rules sets) i v
narrowed-append [] more sets i v = ((λ h. h), (λ h. h))
narrowed-append (rule ∷ rules) more sets i v = narrowed-append rules more (NarrowedBy rule sets) i v

-- none so far
pub no_narrowings : (rules : List Rule) (sets : ℕ → ℤ → Type 0) → AreRuleNarrowings rules 0 sets sets
no_narrowings rules sets = record {
  by = [];
  as_many = refl;
  each = All-nil (Contains rules);
  left = (λ i v. ((λ h. h), (λ h. h)));
}

-- one by the rule at a place of the list
pub one_narrowing : (rules : List Rule) (k : ℕ) (d : Rule) (before after : ℕ → ℤ → Type 0) → k < length rules
    → ((i : ℕ) (v : ℤ) → after i v ↔ NarrowedBy (get_or rules k d) before i v) → AreRuleNarrowings rules 1 before after
one_narrowing rules k d before after lt n =
    let rule = get_or rules k d in
    record {
      by = rule ∷ [];
      as_many = refl;
      each = All-cons (Contains rules) rule [] (k, lt, get_or_default rules k rule d lt) (All-nil (Contains rules));
      left = n;
    }

-- some and then others
pub more_narrowings : (rules : List Rule) (m n : ℕ) (before mid after : ℕ → ℤ → Type 0)
    → AreRuleNarrowings rules m before mid → AreRuleNarrowings rules n mid after → AreRuleNarrowings rules (m + n) before after
more_narrowings rules m n before mid after f g = record {
  by = f.by ++ g.by;
  as_many = (let a = f.as_many in let b = g.as_many in omega (arith, length-append f.by g.by));
  each = All-append (Contains rules) f.by g.by f.each g.each;
  left = (λ i v.
      let all = narrowed-append f.by g.by before i v in (
        (λ h. all.1 (narrowed-mono g.by mid (narrowed_by_rules f.by before) (λ j w u. (f.left j w).0 u) i v ((g.left i v).0 h))),
        (λ h. (g.left i v).1 (narrowed-mono g.by (narrowed_by_rules f.by before) mid (λ j w u. (f.left j w).1 u) i v (all.0 h))),
      ));
}

-- the same, and how many narrowings are left
pub narrowed_none : (whole : ℤ × ℤ) (old : RulesState) → AreNarrowedTo whole old 0 old
narrowed_none whole old = record { narrowings = no_narrowings old.rules (set_at old.domains); fewer = omega arith }

pub narrowed_more : (whole : ℤ × ℤ) (count : ℕ) (old mid new : RulesState) → AreNarrowedTo whole old count mid → mid.rules ≡ old.rules
    → AreRuleNarrowings mid.rules 1 (set_at mid.domains) (set_at new.domains) → 1 + work_of_rules whole new ≤ work_of_rules whole mid → AreNarrowedTo whole old (count + 1) new
narrowed_more whole count old mid new h same one less = record {
  narrowings = more_narrowings old.rules count 1 (set_at old.domains) (set_at mid.domains) (set_at new.domains) h.narrowings
      (subst (λ cs. AreRuleNarrowings cs 1 (set_at mid.domains) (set_at new.domains)) same one);
  fewer = (let a = h.fewer in omega (arith, a, less));
}

-- narrowing adds no member
narrowed-within : (rules : List Rule) (sets : ℕ → ℤ → Type 0) → LiesWithin (narrowed_by_rules rules sets) sets
narrowed-within [] sets i v h = h
narrowed-within (rule ∷ rules) sets i v h = (narrowed-within rules (NarrowedBy rule sets) i v h).kept

-- and keeps each supported family
narrowed-keeps : (rules : List Rule) (family sets : ℕ → ℤ → Type 0) → AllSupport rules family → LiesWithin family sets → LiesWithin family (narrowed_by_rules rules sets)
narrowed-keeps [] family sets s w = w
narrowed-keeps (rule ∷ rules) family sets s w =
    narrowed-keeps rules family (NarrowedBy rule sets) (All-rest (λ d. SupportsAll d family) rule rules s)
    (narrowing_keeps rule family sets (All-head (λ d. SupportsAll d family) rule rules s) w)

-- so do narrowings by rules that support it
pub narrowings_keep : (rules : List Rule) (count : ℕ) (before after : List (List (ℤ × ℤ)))
    → AreRuleNarrowings rules count (set_at before) (set_at after) → KeepsUnder rules before after
narrowings_keep rules count before after n = record {
  within = (λ i v h. narrowed-within n.by (set_at before) i v ((n.left i v).0 h));
  families = (λ f s w i v h. (n.left i v).1 (narrowed-keeps n.by (set_at f) (set_at before)
      (All-weaker (Contains rules) (λ d. SupportsAll d (set_at f)) (λ c k. subst (λ d. SupportsAll d (set_at f)) k.2 (All-get_or (λ d. SupportsAll d (set_at f)) rules k.0 c k.1 s)) n.by n.each)
      w i v h));
}

-- and each common point
pub narrowings_solve : (rules : List Rule) (count : ℕ) (before after : List (List (ℤ × ℤ)))
    → AreRuleNarrowings rules count (set_at before) (set_at after)
    → (point : ℕ → ℤ) → IsCommonPoint rules (set_at before) point → IsCommonPoint rules (set_at after) point
narrowings_solve rules count before after n = points_kept rules (set_at before) (set_at after) (narrowings_keep rules count before after n).families

-- where each rule is fixed at last, they leave the greatest supported family
pub narrowings_greatest : (rules : List Rule) (count : ℕ) (before after : List (List (ℤ × ℤ)))
    → AreRuleNarrowings rules count (set_at before) (set_at after) → All (IsFixedBy (set_at after)) rules → IsGreatestUnder rules (set_at before) (set_at after)
narrowings_greatest rules count before after n fixed = fixed_greatest rules before after (narrowings_keep rules count before after n) fixed

-- where each rule is settled, each is fixed
pub all_fixed : (rules : List Rule) (flags : List Bool) (sets : ℕ → ℤ → Type 0) → AreSettledRules rules flags sets
    → ((k : ℕ) → k < length flags → get_or flags k false ≡ true) → All (IsFixedBy sets) rules
all_fixed rules flags sets s all k d lt = s.fixed k d lt (all k (let n = s.one_each in omega arith))

-- ---- from call to call

-- a rule stays fixed where a variable that it does not name is added
fixed_added : (rule : Rule) (sets : List (List (ℤ × ℤ))) (domain : List (ℤ × ℤ)) → ArePresent (length sets) rule → IsFixedBy (set_at sets) rule → IsFixedBy (set_at (sets ++ domain ∷ [])) rule
fixed_added rule sets domain present f i v h = record {
  kept = h;
  supported = (λ named.
      HasPointAt-mono rule (set_at sets) (set_at (sets ++ domain ∷ []))
      (λ j known w m. subst (λ L. Covers L w) (sym (get_or-append sets (domain ∷ []) [] j (named_present (length sets) rule present j known))) m) i v
      ((f i v (subst (λ L. Covers L v) (get_or-append sets (domain ∷ []) [] i (named_present (length sets) rule present i named)) h)).supported named));
}

-- one more variable
pub sound_added : (sets : List (List (ℤ × ℤ))) (domain : List (ℤ × ℤ)) (rules : List Rule) (flags : List Bool)
    → IsSoundRules sets rules flags → IsSoundRules (sets ++ domain ∷ []) rules flags
sound_added sets domain rules flags s = record {
  different = s.different;
  present = All-weaker (ArePresent (length sets)) (ArePresent (length (sets ++ domain ∷ []))) (λ c p.
      let n = length_push sets domain in ((let a = p.0 in omega arith), (let a = p.1 in omega arith), (let a = p.2 in omega arith))) rules s.present;
  settled = record {
    one_each = s.settled.one_each;
    fixed = (λ k d lt m. fixed_added (get_or rules k d) sets domain (s.present k d lt) (s.settled.fixed k d lt m));
  };
}

-- one more rule
pub sound_pushed : (sets : List (List (ℤ × ℤ))) (rules : List Rule) (flags : List Bool) (rule : Rule) → AreDifferent rule → ArePresent (length sets) rule
    → IsSoundRules sets rules flags → IsSoundRules sets (rules ++ rule ∷ []) (flags ++ false ∷ [])
sound_pushed sets rules flags rule different present s = record {
  different = All-append AreDifferent rules (rule ∷ []) s.different (All-cons AreDifferent rule [] different (All-nil AreDifferent));
  present = All-append (ArePresent (length sets)) rules (rule ∷ []) s.present (All-cons (ArePresent (length sets)) rule [] present (All-nil (ArePresent (length sets))));
  settled = settled_push rules _ flags _ rule (set_at sets) refl refl s.settled;
}

-- other domains, as many
pub sound_moved : (old new : List (List (ℤ × ℤ))) (rules : List Rule) (flags flags' : List Bool) → length new ≡ length old
    → AreSettledRules rules flags' (set_at new) → IsSoundRules old rules flags → IsSoundRules new rules flags'
sound_moved old new rules flags flags' count settled s = record {
  different = s.different;
  present = subst (λ n. All (ArePresent n) rules) (sym count) s.present;
  settled = settled;
}

-- one more variable, or none where memory ran out
pub sound_grown : (old new : List (List (ℤ × ℤ))) (domain : List (ℤ × ℤ)) (rules : List Rule) (flags : List Bool) {E : Type 0} (r : Result ℕ E)
    → OnOk r (new ≡ old ++ domain ∷ []) → OnErr r (new ≡ old) → IsSoundRules old rules flags → IsSoundRules new rules flags
sound_grown old new domain rules flags (Ok i) e f s = subst (λ sets. IsSoundRules sets rules flags) (sym e) (sound_added old domain rules flags s)
sound_grown old new domain rules flags (Err x) e f s = subst (λ sets. IsSoundRules sets rules flags) (sym f) s
