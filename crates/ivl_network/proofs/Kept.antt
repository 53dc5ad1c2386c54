-- Domains that are on the trail since the last mark, so that they are not written down again.
use Rattle.std.proofs.Common.{◌≡◌, ◌∙◌, ◌-◌, ◌<◌, ◌≤◌, inl, inr, ℕ, zero, suc, ap, arith, drop, get_or, length, length-drop, List, [], ◌∷◌, refl, set, subst, sym, take, get_or-drop}
use Rattle.std.specs.Prelude.{ℤ, All, HoldsAt}
use Rattle.std.proofs.lemmas.List.{length-set, length-take, set-set, set_comm}
use Rattle.ivl_network.specs.declared.network.change.Change.{Change}
use Rattle.ivl_network.specs.declared.network.change.Change.TheVariants.{Domain, Variable, Require}
use Rattle.ivl_rules.specs.declared.rules.Rule.{Rule}
use Rattle.ivl_network.specs.Families.{ArePresent}
use Rattle.ivl_network.specs.Trail.{IsRuleKeptFrom, ArePresentIn, IsSoundRuleTrail, KeepsRuleAt, RulesPast, rules_past_at, revert_rule, reverted_rules}
use Rattle.ivl_network.proofs.Trails.{SameAtMarks}
use Rattle.std.proofs.lemmas.Bool.{cases_eq}

-- ---- lists that differ at one place

pub set-take : {X : Type 0} (n : ℕ) (xs : List X) (i : ℕ) (x : X) → set (take n xs) i x ≡ take n (set xs i x)
set-take zero xs i x = refl
set-take (suc n) [] i x = refl
set-take (suc n) (y ∷ xs) zero x = refl
set-take (suc n) (y ∷ xs) (suc i) x = ap (λ ys. y ∷ ys) (set-take n xs i x)

-- they still do where one is replaced in both
pub differ_still : (v : ℕ) (d d' : List (List (ℤ × ℤ))) (i : ℕ) (s : List (ℤ × ℤ)) → set d v [] ≡ set d' v [] → set (set d i s) v [] ≡ set (set d' i s) v []
differ_still v d d' i s e = elim (cases_eq i v) [
  | inl at ↦ ap (λ j. set (set d j s) v []) at ∙ set-set d v s [] ∙ e ∙ sym (set-set d' v s []) ∙ ap (λ j. set (set d' j s) v []) (sym at)
  | inr ne ↦ set_comm d i v s [] ne ∙ ap (λ xs. set xs i s) e ∙ sym (set_comm d' i v s [] ne)
]

-- and no more where that one is
pub differ_no_more : (v : ℕ) (d d' : List (List (ℤ × ℤ))) (i : ℕ) (s : List (ℤ × ℤ)) → i ≡ v → set d v [] ≡ set d' v [] → set d i s ≡ set d' i s
differ_no_more v d d' i s at e =
    ap (λ j. set d j s) at ∙ sym (set-set d v [] s) ∙ ap (λ xs. set xs v s) e ∙ set-set d' v [] s ∙ ap (λ j. set d' j s) (sym at)

-- ---- pasts that differ at one domain

record DifferAt (v : ℕ) (p q : RulesPast) : Type 0 where
  domains : set p.domains v [] ≡ set q.domains v []
  rules : p.rules ≡ q.rules

same_length : (v : ℕ) (p q : RulesPast) → DifferAt v p q → length p.domains ≡ length q.domains
same_length v p q h = sym (length-set p.domains v []) ∙ ap length h.domains ∙ length-set q.domains v []

past_is : (d d' : List (List (ℤ × ℤ))) (c c' : List Rule) → d ≡ d' → c ≡ c' → ◌≡◌ {A = RulesPast} (record { domains = d; rules = c }) (record { domains = d'; rules = c' })
past_is d d' c c' e f = rw (e, f) refl

differ_before : {B O : Type 0} (v : ℕ) (change : Change B O) (p q : RulesPast) → DifferAt v p q → DifferAt v (revert_rule change p) (revert_rule change q)
differ_before v (Domain i set) p q h = record { domains = differ_still v p.domains q.domains i set h.domains; rules = h.rules }
differ_before v Variable p q h = record {
  domains = set-take (length p.domains - 1) p.domains v [] ∙ ap (take (length p.domains - 1)) h.domains
      ∙ ap (λ n. take (n - 1) (set q.domains v [])) (same_length v p q h) ∙ sym (set-take (length q.domains - 1) q.domains v []);
  rules = h.rules;
}
differ_before v Require p q h = record { domains = h.domains; rules = ap (λ (cs : List Rule). take (length cs - 1) cs) h.rules }

differ_all : {B O : Type 0} (v : ℕ) (changes : List (Change B O)) (p q : RulesPast) → DifferAt v p q → DifferAt v (reverted_rules changes p) (reverted_rules changes q)
differ_all v [] p q h = h
differ_all v (change ∷ changes) p q h = differ_before v change (reverted_rules changes p) (reverted_rules changes q) (differ_all v changes p q h)

-- a change that has the domain makes them one
one_before : {B O : Type 0} (v : ℕ) (change : Change B O) (p q : RulesPast) → KeepsRuleAt v change → DifferAt v p q → revert_rule change p ≡ revert_rule change q
one_before v (Domain i set) p q k h = past_is _ _ _ _ (differ_no_more v p.domains q.domains i set k h.domains) h.rules
one_before v Variable p q k h = absurd k
one_before v Require p q k h = absurd k

one_from : {B O : Type 0} (v : ℕ) (changes : List (Change B O)) (k : ℕ) (p q : RulesPast) → k < length changes → HoldsAt (KeepsRuleAt v) changes k → DifferAt v p q
    → reverted_rules changes p ≡ reverted_rules changes q
one_from v [] k p q lt keeps h = absurd (omega (arith, lt))
one_from v (change ∷ changes) zero p q lt keeps h = one_before v change (reverted_rules changes p) (reverted_rules changes q) (keeps change) (differ_all v changes p q h)
one_from v (change ∷ changes) (suc k) p q lt keeps h = ap (revert_rule change) (one_from v changes k p q (omega (arith, lt)) (λ d. keeps d) h)

-- ---- a domain that is kept since a mark

one_at : {B O : Type 0} (trail : List (Change B O)) (start place v : ℕ) (d d' : List (List (ℤ × ℤ))) (cs : List Rule) → place ≤ start → set d v [] ≡ set d' v []
    → IsRuleKeptFrom start trail v
    → rules_past_at trail (record { domains = d; rules = cs }) place ≡ rules_past_at trail (record { domains = d'; rules = cs }) place
one_at trail start place v d d' cs le differ kept =
    one_from v (drop place trail) (kept.0 - place) _ _ (let n = length-drop place trail in let a = kept.1 in let b = kept.2 in omega (arith, n, a, b, le))
    (λ e. subst (KeepsRuleAt v) (ap (λ k. get_or trail k e) (let a = kept.1 in omega (arith, a, le)) ∙ sym (get_or-drop place trail (kept.0 - place) e)) (kept.3 e))
    (record { domains = differ; rules = refl })

-- ---- as many domains

record AsMany (p q : RulesPast) : Type 0 where
  domains : length p.domains ≡ length q.domains
  rules : p.rules ≡ q.rules

as_many_before : {B O : Type 0} (change : Change B O) (p q : RulesPast) → AsMany p q → AsMany (revert_rule change p) (revert_rule change q)
as_many_before (Domain i s) p q h = record { domains = length-set p.domains i s ∙ h.domains ∙ sym (length-set q.domains i s); rules = h.rules }
as_many_before Variable p q h = record {
  domains = (let a = length-take (length p.domains - 1) p.domains in let b = length-take (length q.domains - 1) q.domains in let e = h.domains in omega (arith, a, b, e));
  rules = h.rules;
}
as_many_before Require p q h = record { domains = h.domains; rules = ap (λ (cs : List Rule). take (length cs - 1) cs) h.rules }

as_many_all : {B O : Type 0} (changes : List (Change B O)) (p q : RulesPast) → AsMany p q → AsMany (reverted_rules changes p) (reverted_rules changes q)
as_many_all [] p q h = h
as_many_all (change ∷ changes) p q h = as_many_before change (reverted_rules changes p) (reverted_rules changes q) (as_many_all changes p q h)

present_as_many : (p q : RulesPast) → AsMany p q → ArePresentIn p → ArePresentIn q
present_as_many p q h present = subst (λ n. All (ArePresent n) q.rules) h.domains (subst (λ cs. All (ArePresent (length p.domains)) cs) h.rules present)

-- ---- the network at its marks

-- a domain that is replaced, and that the trail has since the last mark
pub kept_at_marks : {B O : Type 0} (marks : List ℕ) (trail : List (Change B O)) (v : ℕ) (old : List (ℤ × ℤ)) (d d' : List (List (ℤ × ℤ))) (cs : List Rule) → set d' v old ≡ d
    → IsSoundRuleTrail marks trail (record { domains = d; rules = cs }) → IsRuleKeptFrom (get_or marks (length marks - 1) 0) trail v
    → SameAtMarks marks trail (record { domains = d; rules = cs }) (record { domains = d'; rules = cs })
kept_at_marks marks trail v old d d' cs back sound kept = record {
  past = (λ k lt. one_at trail (get_or marks (length marks - 1) 0) (get_or marks k 0) v d' d cs (sound.in_order k (length marks - 1) (omega (arith, lt)) (omega (arith, lt)))
      (sym (set-set d' v old []) ∙ ap (λ xs. set xs v []) back) kept);
  present = (λ m h. present_as_many (rules_past_at trail (record { domains = d; rules = cs }) m) (rules_past_at trail (record { domains = d'; rules = cs }) m)
      (as_many_all (drop m trail) (record { domains = d; rules = cs }) (record { domains = d'; rules = cs }) (record { domains = ap length (sym back) ∙ length-set d' v old; rules = refl })) h);
}
