-- The solutions over domains that are narrowed, cut, empty, or of one member each.
use Rattle.std.proofs.Common.{◌≡◌, ◌<◌, ℕ, zero, suc, ◌⊎◌, inl, inr, sym, subst, arith, refl, below_more, ◌+◌, List, [], ◌∷◌, ◌++◌, length, ◌∙◌}
use Rattle.std.specs.Prelude.{ℤ, pos, ◌≤ℤ◌, ◌<ℤ◌, ◌↔◌, All, slice_index_or}
use Rattle.std.proofs.lemmas.Int.{ints, by_lt_z}
use Rattle.std.proofs.lemmas.List.{same_lists, get_or_default, get_or_push}
use Rattle.std.proofs.Math.ListN.{get_or-append}
use Rattle.ivl_laws.specs.Families.{set_at}
use Rattle.ivl_laws.specs.Runs.{Covers, IsRunListIn}
use Rattle.ivl_laws.specs.Sets.{Intersection, IsBetween, Only, SameMembers}
use Rattle.ivl_network.specs.Network.{IsCutAt}
use Rattle.ivl_store.specs.Posts.{HasEmpty}
use Rattle.ivl_store.specs.Solutions.{LiesWithin}
use Rattle.ivl_rules.specs.declared.rules.Rule.{Rule}
use Rattle.ivl_rules.specs.Rules.{HasPointAt, places}
use Rattle.ivl_rules.proofs.Satisfying.{Satisfies-same}
use Rattle.ivl_network.specs.Families.{AllSupport, ArePresent, KeepsUnder}
use Rattle.ivl_network.proofs.Families.{named_present}
use Rattle.ivl_search.specs.Nodes.{AreSingle, IsOnlyPoint}
use Rattle.ivl_search.specs.Points.{coordinate, SolvesRules}
use Rattle.ivl_laws.proofs.Runs.{≤ℤ_antisymm}
use Rattle.std.proofs.lemmas.List.Elements.{All-head, All-tail}

-- the sets that hold the numbers of a point alone
family : List ℤ → List (List (ℤ × ℤ))
family [] = []
family (v ∷ point) = ((v, v) ∷ []) ∷ family point

family-has : (point : List ℤ) (i : ℕ) → i < length point → set_at (family point) i (coordinate point i)
unfolding family
family-has [] i lt = absurd (omega (arith, lt))
family-has (v ∷ point) zero lt = let le : v ≤ℤ v = omega (arith, ints) in inl (le, le)
family-has (v ∷ point) (suc i) lt = family-has point i (omega (arith, lt))

family-only : (point : List ℤ) (i : ℕ) (v : ℤ) → set_at (family point) i v → (i < length point) × (coordinate point i ≡ v)
unfolding family
family-only [] i v h = absurd h
family-only (x ∷ point) zero v (inl h) = (omega arith, ≤ℤ_antisymm x v h.0 h.1)
family-only (x ∷ point) zero v (inr h) = absurd h
family-only (x ∷ point) (suc i) v h = let k = family-only point i v h in let lt = k.0 in (omega (arith, lt), k.1)

-- the rules that a point satisfies support it
family-supported : (rules : List Rule) (sets : List (List (ℤ × ℤ))) (point : List ℤ) → All (ArePresent (length sets)) rules
    → SolvesRules rules sets point → AllSupport rules (set_at (family point))
family-supported rules sets point present s k d lt i named v m =
    let rule = slice_index_or rules k d in
    record {
      point = coordinate point;
      is_point = record {
        inside = (λ j known. family-has point j (subst (λ n. j < n) (sym s.one_each) (named_present (length sets) rule (present k d lt) j known)));
        satisfies = s.satisfied k d lt;
      };
      at = (family-only point i v m).1;
    }

family-within : (rules : List Rule) (sets : List (List (ℤ × ℤ))) (point : List ℤ) → SolvesRules rules sets point → LiesWithin (set_at (family point)) (set_at sets)
family-within rules sets point s i v h =
    let k = family-only point i v h in
    subst (set_at sets i) k.1 (s.members i (subst (λ n. i < n) s.one_each k.0))

-- narrowing loses no solution
pub narrowed_solves : (rules : List Rule) (old new : List (List (ℤ × ℤ))) → length new ≡ length old → All (ArePresent (length old)) rules
    → KeepsUnder rules old new → (point : List ℤ) → SolvesRules rules old point ↔ SolvesRules rules new point
narrowed_solves rules old new same present keeps point = (
  (λ s. record {
    one_each = s.one_each ∙ sym same;
    members = λ i lt. keeps.families (family point) (family-supported rules old point present s) (family-within rules old point s) i (coordinate point i)
        (family-has point i (subst (λ n. i < n) (same ∙ sym s.one_each) lt));
    satisfied = s.satisfied;
  }),
  (λ s. record {
    one_each = s.one_each ∙ same;
    members = λ i lt. keeps.within i (coordinate point i) (s.members i (subst (λ n. i < n) (sym same) lt));
    satisfied = s.satisfied;
  }),
)

-- a cut keeps the solutions whose number is in the part
pub cut_solves : (rules : List Rule) (old new : List (List (ℤ × ℤ))) (variable : ℕ) (S : ℤ → Type 0) → length new ≡ length old → variable < length old
    → IsCutAt variable S (set_at old) (set_at new) → (point : List ℤ) → SolvesRules rules new point ↔ (SolvesRules rules old point × S (coordinate point variable))
cut_solves rules old new variable S same known cut point = (
  (λ s. (
    record {
      one_each = s.one_each ∙ same;
      members = λ i lt. ((cut i (coordinate point i)).0 (s.members i (subst (λ n. i < n) (sym same) lt))).0;
      satisfied = s.satisfied;
    },
    ((cut variable (coordinate point variable)).0 (s.members variable (subst (λ n. variable < n) (sym same) known))).1 refl,
  )),
  (λ s. record {
    one_each = s.0.one_each ∙ sym same;
    members = λ i lt. (cut i (coordinate point i)).1 (s.0.members i (subst (λ n. i < n) same lt), λ e. subst (λ j. S (coordinate point j)) (sym e) s.1);
    satisfied = s.0.satisfied;
  }),
)

pub le_or_lt : (x v : ℤ) → (x ≤ℤ v) ⊎ (v <ℤ x)
le_or_lt x v = by_lt_z v x (λ lt. inr lt) (λ le. inl le)

-- no point gives an empty set a member
pub none_solves : (rules : List Rule) (sets : List (List (ℤ × ℤ))) → HasEmpty (length sets) (set_at sets) → (point : List ℤ) → SolvesRules rules sets point → ⊥
none_solves rules sets h point s = h.empty (coordinate point h.variable) (s.members h.variable h.known)

-- the numbers of supported sets of one member each solve the rules
pub single_solves : (rules : List Rule) (sets : List (List (ℤ × ℤ))) (point : List ℤ) → All (ArePresent (length sets)) rules
    → AllSupport rules (set_at sets) → IsOnlyPoint sets point → SolvesRules rules sets point
single_solves rules sets point present supported only = record {
  one_each = only.one_each;
  members = λ i lt. (only.only i lt (coordinate point i)).1 refl;
  satisfied = λ k d lt.
      let rule = slice_index_or rules k d in
      let known = present k d lt in
      let h : HasPointAt rule (set_at sets) (places rule).x (coordinate point (places rule).x) =
      supported k d lt (places rule).x (inl refl) (coordinate point (places rule).x) ((only.only (places rule).x known.0 (coordinate point (places rule).x)).1 refl) in
      Satisfies-same rule h.point (coordinate point)
      (λ i named. (only.only i (named_present (length sets) rule known i named) (h.point i)).0 (h.is_point.inside i named)) h.is_point.satisfies;
}

-- and no other point does
pub single_solution : (rules : List Rule) (sets : List (List (ℤ × ℤ))) (one point : List ℤ) → IsOnlyPoint sets one → SolvesRules rules sets point → point ≡ one
single_solution rules sets one point only s =
    same_lists point one (s.one_each ∙ sym only.one_each) (λ k d lt.
    let known : k < length sets = subst (λ n. k < n) s.one_each lt in
    get_or_default point k d _ lt ∙ (only.only k known (coordinate point k)).0 (s.members k known)
    ∙ sym (get_or_default one k d _ (subst (λ n. k < n) (sym only.one_each) known)))

-- the members of sets of the range are of the range
pub in_range : (whole : ℤ × ℤ) (sets : List (List (ℤ × ℤ))) → All (IsRunListIn whole) sets → (i : ℕ) (v : ℤ) → set_at sets i v → IsBetween whole v
in_range whole [] a i v h = absurd h
in_range whole (s ∷ sets) a zero v h = (All-head (IsRunListIn whole) s sets a).within v h
in_range whole (s ∷ sets) a (suc i) v h = in_range whole sets (All-tail (IsRunListIn whole) s sets a) i v h

-- a cut to the numbers of the range that have a property is one to all numbers that have it
pub cut_in_range : (whole : ℤ × ℤ) (old new : List (List (ℤ × ℤ))) (variable : ℕ) (part S : ℤ → Type 0) → All (IsRunListIn whole) old
    → SameMembers part (Intersection (IsBetween whole) S) → IsCutAt variable part (set_at old) (set_at new)
    → IsCutAt variable S (set_at old) (set_at new)
cut_in_range whole old new variable part S ranges same cut i v = (
  (λ h. let k = (cut i v).0 h in (k.0, λ e. ((same v).0 (k.1 e)).1)),
  (λ h. (cut i v).1 (h.0, λ e. (same v).1 (in_range whole old ranges i v h.0, h.1 e))),
)

-- a point with one more number
pub only_more : (sets : List (List (ℤ × ℤ))) (point : List ℤ) (k : ℕ) (x : ℤ) → length point ≡ k
    → ((i : ℕ) → i < k → SameMembers (set_at sets i) (Only (coordinate point i))) → SameMembers (set_at sets k) (Only x)
    → (i : ℕ) → i < k + 1 → SameMembers (set_at sets i) (Only (coordinate (point ++ x ∷ []) i))
only_more sets point k x e so_far here =
    below_more _ _
    (λ i lt. subst (λ y. SameMembers (set_at sets i) (Only y)) (sym (get_or-append point (x ∷ []) (pos 0) i (subst (λ n. i < n) (sym e) lt))) (so_far i lt))
    (subst (λ y. SameMembers (set_at sets k) (Only y)) (sym (get_or_push point x (pos 0) k e)) here)

-- the number of a set that has one member
pub only_member : (S : ℤ → Type 0) (x y : ℤ) → SameMembers S (Only x) → S y → SameMembers S (Only y)
only_member S x y same h = subst (λ z. SameMembers S (Only z)) (sym ((same y).0 h)) same

-- sets of one member each have a point
pub single_point : (sets : List (List (ℤ × ℤ))) → AreSingle sets → (point : List ℤ) × IsOnlyPoint sets point
single_point [] single = ([], record { one_each = refl; only = λ i lt. absurd (omega (arith, lt)) })
single_point (s ∷ sets) single =
    let first = single 0 (omega arith) in
    let rest = single_point sets (λ i lt. single (suc i) (omega (arith, lt))) in
    let same = rest.1.one_each in
    (first.0 ∷ rest.0, record { one_each = omega (arith, same); only = only_cons s sets first.0 rest.0 first.1 rest.1.only })
  where
    only_cons : (s : List (ℤ × ℤ)) (sets : List (List (ℤ × ℤ))) (x : ℤ) (point : List ℤ) → SameMembers (Covers s) (Only x)
        → ((i : ℕ) → i < length sets → SameMembers (set_at sets i) (Only (coordinate point i)))
        → (i : ℕ) → i < length (s ∷ sets) → SameMembers (set_at (s ∷ sets) i) (Only (coordinate (x ∷ point) i))
    only_cons s sets x point here others zero lt = here
    only_cons s sets x point here others (suc i) lt = others i (omega (arith, lt))
