-- Examples of what rules support, keep and leave of given families, and of what a network of rules keeps.
use Rattle.std.proofs.Common.{◌≡◌, ◌+◌, ◌*◌, ◌<◌, ◌≤◌, ℕ, zero, suc, inl, inr, refl, subst, sym, arith, true, false, List, [], ◌∷◌, get_or}
use Rattle.std.specs.Prelude.{ℤ, pos, Contains}
use Rattle.std.proofs.lemmas.Bool.{false≢true}
use Rattle.std.proofs.lemmas.Int.{ints}
use Rattle.std.proofs.lemmas.List.Elements.{All-nil, All-cons}
use Rattle.ivl_laws.specs.Families.{set_at}
use Rattle.ivl_store.specs.Solutions.{LiesWithin}
use Rattle.ivl_store.proofs.Lists.{All-head}
use Rattle.ivl_rules.specs.declared.rules.Rule.{Rule}
use Rattle.ivl_rules.specs.declared.rules.Rule.TheVariants.{AtMost}
use Rattle.ivl_rules.specs.Rules.{IsPointOf, NamesOf, NarrowedBy, SupportsAll}
use Rattle.ivl_rules.proofs.Narrowings.{HasPointAt-mono, narrowing_keeps}
use Rattle.ivl_network.specs.Families.{AllSupport, ArePresent, IsCommonPoint, IsFixedBy, IsGreatestUnder, KeepsUnder}
use Rattle.ivl_store.specs.Measure.{count_from}
use Rattle.ivl_network.specs.Network.{AreRuleNarrowings, IsCutAt, IsRuleRequired, work_of_rules}
use Rattle.ivl_network.specs.Queue.{IsLastNamingRule, IsListed, IsListedAt, Removes, times_in, unsettled_count, waits}
use Rattle.ivl_network.specs.Settled.{AreSettledRules}
use Rattle.ivl_network.specs.Trail.{revert_rule, rules_past_at}
use Rattle.ivl_network.specs.declared.network.change.Change.TheVariants.{Domain, Require}

abbrev Sets : Type 0
Sets = List (List (ℤ × ℤ))

-- variable 0 comes before variable 1
abbrev before : Rule
before = AtMost 0 1 (pos 1)

-- both from 0 to 1
abbrev bits : Sets
bits = ((pos 0, pos 1) ∷ []) ∷ ((pos 0, pos 1) ∷ []) ∷ []

-- 0 and 1
abbrev zero_and_one : Sets
zero_and_one = ((pos 0, pos 0) ∷ []) ∷ ((pos 1, pos 1) ∷ []) ∷ []

-- the point that gives variable 0 the number 0, and the others 1
the_point : ℕ → ℤ
the_point zero = pos 0
the_point (suc i) = pos 1

it_is_a_point : IsPointOf before (set_at zero_and_one) the_point
unfolding the_point
it_is_a_point = record { inside = inside; satisfies = omega (arith, ints) }
  where
    inside : (i : ℕ) → NamesOf before i → set_at zero_and_one i (the_point i)
    inside i named = elim named [
      | inl e ↦ subst (λ j. set_at zero_and_one j (the_point j)) (sym e) (inl (omega (arith, ints), omega (arith, ints)))
      | inr (inl e) ↦ subst (λ j. set_at zero_and_one j (the_point j)) (sym e) (inl (omega (arith, ints), omega (arith, ints)))
      | inr (inr e) ↦ subst (λ j. set_at zero_and_one j (the_point j)) (sym e) (inl (omega (arith, ints), omega (arith, ints)))
    ]

it_is_common : IsCommonPoint (before ∷ []) (set_at zero_and_one) the_point
it_is_common = All-cons (λ d. IsPointOf d (set_at zero_and_one) the_point) before [] it_is_a_point (All-nil (λ d. IsPointOf d (set_at zero_and_one) the_point))

-- each member of the two sets is the point's
before_supports : SupportsAll before (set_at zero_and_one)
unfolding the_point
before_supports zero named v (inl m) = record { point = the_point; is_point = it_is_a_point; at = omega (arith, ints, m.0, m.1) }
before_supports zero named v (inr m) = absurd m
before_supports (suc zero) named v (inl m) = record { point = the_point; is_point = it_is_a_point; at = omega (arith, ints, m.0, m.1) }
before_supports (suc zero) named v (inr m) = absurd m
before_supports (suc (suc i)) named v m = absurd m

all_support : AllSupport (before ∷ []) (set_at zero_and_one)
all_support = All-cons (λ d. SupportsAll d (set_at zero_and_one)) before [] before_supports (All-nil (λ d. SupportsAll d (set_at zero_and_one)))

-- what narrowing leaves of the bits is 0 at variable 0, and 1 at variable 1
narrowing_leaves_these : (i : ℕ) (v : ℤ) → NarrowedBy before (set_at bits) i v → set_at zero_and_one i v
narrowing_leaves_these zero v n =
    let p = n.supported (inl refl) in
    let le = p.is_point.satisfies in
    let at = p.at in
    elim n.kept [
      | inl low ↦ elim (p.is_point.inside 1 (inr (inl refl))) [ inl high ↦ inl (low.0, omega (arith, ints, le, at, high.1)) | inr none ↦ absurd none ]
      | inr none ↦ absurd none
    ]
narrowing_leaves_these (suc zero) v n =
    let p = n.supported (inr (inl refl)) in
    let le = p.is_point.satisfies in
    let at = p.at in
    elim n.kept [
      | inl high ↦ elim (p.is_point.inside 0 (inl refl)) [ inl low ↦ inl (omega (arith, ints, le, at, low.0), high.1) | inr none ↦ absurd none ]
      | inr none ↦ absurd none
    ]
narrowing_leaves_these (suc (suc i)) v n = n.kept

-- so does each supported family within the bits lie within these
only_these : (other : ℕ → ℤ → Type 0) → AllSupport (before ∷ []) other → LiesWithin other (set_at bits) → LiesWithin other (set_at zero_and_one)
only_these other s w i v m = narrowing_leaves_these i v (narrowing_keeps before other (set_at bits) (All-head (λ d. SupportsAll d other) before [] s) w i v m)

these_lie_within : LiesWithin (set_at zero_and_one) (set_at bits)
these_lie_within zero v (inl m) = inl (m.0, omega (arith, ints, m.1))
these_lie_within zero v (inr m) = absurd m
these_lie_within (suc zero) v (inl m) = inl (omega (arith, ints, m.0), m.1)
these_lie_within (suc zero) v (inr m) = absurd m
these_lie_within (suc (suc i)) v m = absurd m

these_are_greatest : IsGreatestUnder (before ∷ []) (set_at bits) (set_at zero_and_one)
these_are_greatest = record {
  within = these_lie_within;
  supported = all_support;
  greatest = (λ other w s. only_these (set_at other) s w);
}

these_are_kept : KeepsUnder (before ∷ []) bits zero_and_one
these_are_kept = record { within = these_lie_within; families = (λ family s w. only_these (set_at family) s w) }

-- the bits are not supported: 1 at variable 0 has nothing above it
bits_are_not : AllSupport (before ∷ []) (set_at bits) → ⊥
bits_are_not s =
    elim (only_these (set_at bits) s (λ i v m. m) 0 (pos 1) (inl (omega (arith, ints), omega (arith, ints)))) [
      | inl m ↦ (let b = m.1 in omega (arith, ints))
      | inr none ↦ none
    ]

-- narrowing leaves 0 and 1 as they are, and not the bits
these_are_fixed : IsFixedBy (set_at zero_and_one) before
these_are_fixed i v m = record { kept = m; supported = (λ named. before_supports i named v m) }

bits_are_not_fixed : IsFixedBy (set_at bits) before → ⊥
bits_are_not_fixed f = bits_are_not (All-cons (λ d. SupportsAll d (set_at bits)) before [] (λ i named v m. (f i v m).supported named) (All-nil (λ d. SupportsAll d (set_at bits))))

two_are_present : ArePresent 2 before
two_are_present = (omega arith, omega arith, omega arith)

one_is_not : ArePresent 1 before → ⊥
one_is_not p = let b = p.1 in omega arith

-- one narrowing takes the bits to these
one_narrowing : AreRuleNarrowings (before ∷ []) 1 (set_at bits) (set_at zero_and_one)
one_narrowing = record {
  by = before ∷ [];
  as_many = refl;
  each = All-cons (Contains (before ∷ [])) before [] (0, omega arith, refl) (All-nil (Contains (before ∷ [])));
  left = (λ i v. (
    (λ m. record { kept = these_lie_within i v m; supported = (λ named. HasPointAt-mono before (set_at zero_and_one) (set_at bits) (λ j _. these_lie_within j) i v (before_supports i named v m)) }),
    narrowing_leaves_these i v,
  ));
}

-- a flag may be set over these, and over the bits it is not
settled_over_these : AreSettledRules (before ∷ []) (true ∷ []) (set_at zero_and_one)
settled_over_these = record { one_each = refl; fixed = fixed }
  where
    fixed : (k : ℕ) (d : Rule) → k < 1 → get_or (true ∷ []) k false ≡ true → IsFixedBy (set_at zero_and_one) (get_or (before ∷ []) k d)
    fixed zero d lt m = these_are_fixed
    fixed (suc k) d lt m = absurd (omega arith)

unsettled_over_the_bits : AreSettledRules (before ∷ []) (true ∷ []) (set_at bits) → ⊥
unsettled_over_the_bits s = bits_are_not_fixed (s.fixed 0 before (omega arith) refl)

-- a first rule is added, and again it is there
first_required : IsRuleRequired before [] (before ∷ [])
first_required = inr ((λ c. let lt = c.1 in omega arith), refl)

required_again : IsRuleRequired before (before ∷ []) (before ∷ [])
required_again = inl ((0, omega arith, refl), refl)

-- the rule is the last that names variable 1, at its last place, and none names variable 2; it does not need single numbers
last_of_1 : IsLastNamingRule false (before ∷ []) 1 1 3
last_of_1 = record { low = (λ some. omega arith); names = names; none = (λ k d low high. absurd (omega arith)) }
  where
    names : (k : ℕ) (d : Rule) → 0 < 3 → 4 * k ≤ 3 → 3 < 4 * k + 4 → IsListedAt false k 1 3 (get_or (before ∷ []) k d)
    names zero d some low high = (inr (inr (refl, refl)), refl)
    names (suc k) d some low high = absurd (omega arith)

none_of_2 : IsLastNamingRule false (before ∷ []) 2 1 0
none_of_2 = record { low = (λ some. absurd (omega arith)); names = (λ k d some. absurd (omega arith)); none = none }
  where
    none : (k : ℕ) (d : Rule) → 0 ≤ 4 * k → k < 1 → IsListed false 2 (get_or (before ∷ []) k d) → ⊥
    none zero d low high named = elim named.0 [ inl e ↦ omega arith | inr (inl e) ↦ omega arith | inr (inr e) ↦ omega arith ]
    none (suc k) d low high named = omega arith

none_needs_singles : IsLastNamingRule true (before ∷ []) 1 1 0
none_needs_singles = record { low = (λ some. absurd (omega arith)); names = (λ k d some. absurd (omega arith)); none = none }
  where
    none : (k : ℕ) (d : Rule) → 0 ≤ 4 * k → k < 1 → IsListed true 1 (get_or (before ∷ []) k d) → ⊥
    none zero d low high listed = false≢true listed.1
    none (suc k) d low high listed = omega arith

-- what added a rule is taken back, and what cut a domain
rule_taken_back : revert_rule {B = ℕ} {O = ℕ} Require (record { domains = bits; rules = before ∷ [] }) ≡ record { domains = bits; rules = [] }
rule_taken_back = refl

cut_taken_back : rules_past_at {B = ℕ} {O = ℕ} (Domain 0 ((pos 0, pos 1) ∷ []) ∷ Domain 1 ((pos 0, pos 1) ∷ []) ∷ []) (record { domains = zero_and_one; rules = [] }) 0
    ≡ record { domains = bits; rules = [] }
cut_taken_back = refl

-- what is left to do over one number: a rule to look at, and a member that each of two narrowings may take
one_narrowing_is_left : work_of_rules (pos 0, pos 0) (record { domains = [] ∷ []; rules = before ∷ []; settled = false ∷ []; marked = []; were_settled = [] }) ≡ 1
unfolding count_from
one_narrowing_is_left = refl

two_for_a_member : work_of_rules (pos 0, pos 0) (record { domains = ((pos 0, pos 0) ∷ []) ∷ []; rules = before ∷ []; settled = false ∷ []; marked = []; were_settled = [] }) ≡ 3
unfolding count_from
two_for_a_member = refl

-- a cut at variable 0 leaves variable 1 as it is
cut_at_0 : IsCutAt 0 (λ v. v ≡ pos 0) (set_at bits) (λ i v. set_at bits i v × (i ≡ 0 → v ≡ pos 0))
cut_at_0 i v = ((λ h. h), (λ h. h))

-- flags that are not set, and numbers in a list
one_flag_waits : unsettled_count (true ∷ false ∷ []) ≡ 1
one_flag_waits = refl

the_second_waits : waits (true ∷ false ∷ []) 1 ≡ 1
the_second_waits = refl

none_waits_beyond : waits (true ∷ false ∷ []) 2 ≡ 0
none_waits_beyond = refl

twice_in_a_list : times_in 3 (3 ∷ 5 ∷ 3 ∷ []) ≡ 2
twice_in_a_list = refl

none_to_remove : Removes 4 (3 ∷ []) (3 ∷ []) false
none_to_remove = (refl, refl)
