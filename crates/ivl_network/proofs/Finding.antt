-- The walk that looks for a rule.
use Rattle.std.proofs.Common.{◌≡◌, ◌≢◌, ◌∙◌, ◌+◌, ◌-◌, ◌<◌, ◌≤◌, ◌⊎◌, inl, inr, ℕ, ap, arith, get_or, length, List, subst, sym}
use Rattle.std.specs.Prelude.{map}
use Rattle.std.proofs.lemmas.Bool.{cases_eq, cases_lt}
use Rattle.std.proofs.lemmas.List.{get_or-map, get_or_default, length-map}
use Rattle.ivl_rules.specs.declared.rules.Rule.{Rule}
use Rattle.ivl_network.specs.Hashes.{AreInBuckets, IsLastIn, bucket_of}
use Rattle.ivl_network.specs.RuleHashes.{hash_of_rule}

-- the rule is none of those from a place on, and one that is in its bucket stands there
pub record IsNoneFrom (rules : List Rule) (hashes : List ℕ) (size : ℕ) (rule : Rule) (place : ℕ) : Type 0 where
  pub low : place ≤ length rules
  pub there : (k : ℕ) → place ≡ k + 1 → bucket_of size (get_or hashes k 0) ≡ bucket_of size (hash_of_rule rule)
  pub none : (k : ℕ) (d : Rule) → place ≤ k → k < length rules → get_or rules k d ≢ rule

-- the same rule has the same hash
hash_at : (rules : List Rule) (hashes : List ℕ) (k : ℕ) (d : Rule) (rule : Rule) → hashes ≡ map hash_of_rule rules → k < length rules → get_or rules k d ≡ rule
    → get_or hashes k 0 ≡ hash_of_rule rule
hash_at rules hashes k d rule is lt e = ap (λ l. get_or l k 0) is ∙ get_or-map hash_of_rule rules k d 0 lt ∙ ap hash_of_rule e

pub none_from_last : (rules : List Rule) (hashes : List ℕ) (size : ℕ) (rule : Rule) (place : ℕ) → hashes ≡ map hash_of_rule rules
    → IsLastIn hashes size (bucket_of size (hash_of_rule rule)) (length hashes) place → IsNoneFrom rules hashes size rule place
none_from_last rules hashes size rule place is h =
    let n : length hashes ≡ length rules = ap length is ∙ length-map rules hash_of_rule in
    record {
      low = (let l = h.low in omega (arith, l, n));
      there = h.there;
      none = (λ k d from to e. h.none k from (omega (arith, to, n)) (ap (bucket_of size) (hash_at rules hashes k d rule is to e)));
    }

pub none_from_next : (rules : List Rule) (hashes links lasts : List ℕ) (rule d : Rule) (place next : ℕ) → hashes ≡ map hash_of_rule rules → AreInBuckets (length hashes) hashes links lasts
    → IsNoneFrom rules hashes (length lasts) rule place → 0 < place → next ≡ get_or links (place - 1) 0 → get_or rules (place - 1) d ≢ rule → IsNoneFrom rules hashes (length lasts) rule next
none_from_next rules hashes links lasts rule d place next is linked h some at other =
    let n : length hashes ≡ length rules = ap length is ∙ length-map rules hash_of_rule in
    let l = h.low in
    let k : ℕ = place - 1 in
    let e : place ≡ k + 1 = omega (arith, some) in
    let last : IsLastIn hashes (length lasts) (bucket_of (length lasts) (hash_of_rule rule)) k next =
    subst (IsLastIn hashes (length lasts) (bucket_of (length lasts) (hash_of_rule rule)) k) (sym at)
    (subst (λ b. IsLastIn hashes (length lasts) b k (get_or links k 0)) (h.there k e) (linked.links k (omega (arith, l, n, some)))) in
    record {
      low = (let m = last.low in omega (arith, m, l, some));
      there = last.there;
      none = (λ j f from to same. elim (cases_eq j k) [
        | inl here ↦ other (get_or_default rules k d f (omega (arith, l, some)) ∙ subst (λ i. get_or rules i f ≡ rule) here same)
        | inr ne ↦ elim (below_or j k ne) [
          | inl lt ↦ last.none j from lt (ap (bucket_of (length lasts)) (hash_at rules hashes j f rule is to same))
          | inr ge ↦ h.none j f (omega (arith, ge, some)) to same
        ]
      ]);
    }
  where
    below_or : (j k : ℕ) → j ≢ k → (j < k) ⊎ (k < j)
    below_or j k ne = elim (cases_lt j k) [ inl lt ↦ inl lt | inr ge ↦ inr (omega (arith, ne, ge)) ]

-- the walk goes down
pub next_is_below : (hashes links lasts : List ℕ) (place next : ℕ) → AreInBuckets (length hashes) hashes links lasts → 0 < place → place ≤ length hashes → next ≡ get_or links (place - 1) 0 → next < place
next_is_below hashes links lasts place next linked some low at =
    let m = (linked.links (place - 1) (omega (arith, some, low))).low in omega (arith, m, at, some)
