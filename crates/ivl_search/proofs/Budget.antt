-- How many points there are before and after a narrowing or a cut.
use Rattle.std.proofs.Common.{◌≡◌, ◌<◌, ◌≤◌, ◌+◌, ◌*◌, ℕ, zero, suc, ◌⊎◌, inl, inr, sym, arith, refl, Bool, true, false, cond, List, [], ◌∷◌, length, ap}
use Rattle.std.specs.Prelude.{ℤ, pos, ◌+ℤ◌, ◌≤ℤ◌, ◌↔◌, All}
use Rattle.std.proofs.Math.Nat.{mul-le-mul, one-le-mul}
use Rattle.std.proofs.lemmas.Bool.{both_ways}
use Rattle.std.proofs.lemmas.Int.{ints}
use Rattle.std.proofs.lemmas.List.Elements.{All-head, All-tail}
use Rattle.ivl_laws.specs.Bounds.{width_of}
use Rattle.ivl_laws.specs.Families.{set_at}
use Rattle.ivl_laws.specs.Runs.{Covers, IsRunListIn}
use Rattle.ivl_laws.specs.Sets.{HasSome}
use Rattle.ivl_laws.proofs.Intervals.{width_of-filled}
use Rattle.ivl_store.specs.Measure.{covers, count_from, total}
use Rattle.ivl_network.specs.Network.{IsCutAt}
use Rattle.ivl_store.specs.Solutions.{LiesWithin}
use Rattle.ivl_store.proofs.Counting.{count_le, count_less, covers-is}
use Rattle.ivl_search.specs.Budget.{points_of}

-- sets within others have no more points
pub points_le : (whole : ℤ × ℤ) (new old : List (List (ℤ × ℤ))) → length new ≡ length old → LiesWithin (set_at new) (set_at old) → points_of whole new ≤ points_of whole old
points_le whole [] [] e w = omega arith
points_le whole [] (t ∷ old) e w = absurd (omega arith)
points_le whole (s ∷ new) [] e w = absurd (omega arith)
points_le whole (s ∷ new) (t ∷ old) e w =
    mul-le-mul (count_le s t whole.0 (width_of whole) (w 0)) (points_le whole new old (omega (arith, e)) (λ i v. w (suc i) v))

-- sets that have a member each have a point
some_counted : (whole : ℤ × ℤ) (s : List (ℤ × ℤ)) → IsRunListIn whole s → HasSome (Covers s) → 1 ≤ count_from s whole.0 (width_of whole)
some_counted whole s runs some =
    let p = runs.within some.0 some.1 in
    let a = p.0 in
    let b = p.1 in
    let filled : whole.0 ≤ℤ whole.1 = omega (arith, ints) in
    let e = width_of-filled whole filled in
    let less = count_less [] s whole.0 (width_of whole) (λ z h. absurd h) some.0 a (omega (arith, ints)) some.1 (λ h. h) in
    omega (arith, less)

pub points_some : (whole : ℤ × ℤ) (sets : List (List (ℤ × ℤ))) → All (IsRunListIn whole) sets → ((i : ℕ) → i < length sets → HasSome (set_at sets i)) → 1 ≤ points_of whole sets
points_some whole [] runs some = omega arith
points_some whole (s ∷ sets) runs some =
    one-le-mul (some_counted whole s (All-head (IsRunListIn whole) s sets runs) (some 0 (omega arith)))
    (points_some whole sets (All-tail (IsRunListIn whole) s sets runs) (λ i lt. some (suc i) (omega (arith, lt))))

fewer_first : (a b p q : ℕ) → a < b → p ≤ q → 1 ≤ p → a * p < b * q
fewer_first a b p q lt le one =
    let h : (a + 1) * p ≤ b * q = mul-le-mul lt' le in
    let e : (a + 1) * p ≡ a * p + p = grind arith in
    omega (arith, h, e)
  where
    lt' : a + 1 ≤ b
    lt' = omega (arith, lt)

fewer_others : (a b p q : ℕ) → a ≤ b → p < q → 1 ≤ a → a * p < b * q
fewer_others a b p q le lt one =
    let h : a * (p + 1) ≤ b * q = mul-le-mul le lt' in
    let e : a * (p + 1) ≡ a * p + a = grind arith in
    omega (arith, h, e)
  where
    lt' : p + 1 ≤ q
    lt' = omega (arith, lt)

-- where members are lost, and a point is left, there are fewer
pub points_less : (whole : ℤ × ℤ) (new old : List (List (ℤ × ℤ))) → length new ≡ length old → LiesWithin (set_at new) (set_at old) → total whole new < total whole old
    → 1 ≤ points_of whole new → points_of whole new < points_of whole old
points_less whole [] [] e w less one = absurd (omega (arith, less))
points_less whole [] (t ∷ old) e w less one = absurd (omega arith)
points_less whole (s ∷ new) [] e w less one = absurd (omega arith)
points_less whole (s ∷ new) (t ∷ old) e w less one =
    let a = count_from s whole.0 (width_of whole) in
    let b = count_from t whole.0 (width_of whole) in
    let p = points_of whole new in
    let first = count_le s t whole.0 (width_of whole) (w 0) in
    let others = points_le whole new old (omega (arith, e)) (λ i v. w (suc i) v) in
    let ones = one_of_both a p one in
    elim (less_or_not a b first) [
      | inl lt ↦ fewer_first a b p (points_of whole old) lt others ones.1
      | inr same ↦ fewer_others a b p (points_of whole old) first (points_less whole new old (omega (arith, e)) (λ i v. w (suc i) v) (omega (arith, less, same)) ones.1) ones.0
    ]
  where
    less_or_not : (a b : ℕ) → a ≤ b → (a < b) ⊎ (a ≡ b)
    less_or_not a b le = grind arith

    one_of_both : (a p : ℕ) → 1 ≤ a * p → (1 ≤ a) × (1 ≤ p)
    one_of_both zero p h = absurd (grind arith)
    one_of_both (suc a) zero h = absurd (grind arith)
    one_of_both (suc a) (suc p) h = (omega arith, omega arith)

-- the same members make the same points
pub points_same : (whole : ℤ × ℤ) (new old : List (List (ℤ × ℤ))) → length new ≡ length old → ((i : ℕ) (v : ℤ) → set_at new i v ↔ set_at old i v) → points_of whole new ≡ points_of whole old
points_same whole new old e same =
    let a = points_le whole new old e (λ i v h. (same i v).0 h) in
    let b = points_le whole old new (sym e) (λ i v h. (same i v).1 h) in
    omega arith

-- two parts of a set have the members of the set
count_parts : (low high s : List (ℤ × ℤ)) (first other : ℤ → Type 0) (from : ℤ) (n : ℕ) → ((z : ℤ) → first z ⊎ other z) → ((z : ℤ) → first z → other z → ⊥)
    → ((z : ℤ) → Covers low z ↔ (Covers s z × first z)) → ((z : ℤ) → Covers high z ↔ (Covers s z × other z))
    → count_from low from n + count_from high from n ≡ count_from s from n
unfolding count_from
count_parts low high s first other from zero either apart in_low in_high = refl
count_parts low high s first other from (suc n) either apart in_low in_high =
    let rest = count_parts low high s first other from n either apart in_low in_high in
    let z = from +ℤ pos n in
    let one = one_in_parts (covers low z) (covers high z) (covers s z)
    (λ h. let k = (in_low z).0 ((covers-is low z).0 h) in (covers-is s z).1 k.0)
    (λ h. let k = (in_high z).0 ((covers-is high z).0 h) in (covers-is s z).1 k.0)
    (λ h k. apart z ((in_low z).0 ((covers-is low z).0 h)).1 ((in_high z).0 ((covers-is high z).0 k)).1)
    (λ h. elim (either z) [
      | inl f ↦ inl ((covers-is low z).1 ((in_low z).1 ((covers-is s z).0 h, f)))
      | inr o ↦ inr ((covers-is high z).1 ((in_high z).1 ((covers-is s z).0 h, o)))
    ]) in
    omega (arith, rest, one)
  where
    one_in_parts : (a b c : Bool) → (a ≡ true → c ≡ true) → (b ≡ true → c ≡ true) → (a ≡ true → b ≡ true → ⊥) → (c ≡ true → (a ≡ true) ⊎ (b ≡ true))
        → cond a 1 0 + cond b 1 0 ≡ cond c 1 0
    one_in_parts true true c f g h k = absurd (h refl refl)
    one_in_parts true false true f g h k = refl
    one_in_parts true false false f g h k = absurd (both_ways false refl (f refl))
    one_in_parts false true true f g h k = refl
    one_in_parts false true false f g h k = absurd (both_ways false refl (g refl))
    one_in_parts false false true f g h k = absurd (elim (k refl) [ inl e ↦ both_ways false refl e | inr e ↦ both_ways false refl e ])
    one_in_parts false false false f g h k = refl

-- two parts of a cut have the points of the sets
pub points_parts : (whole : ℤ × ℤ) (low high sets : List (List (ℤ × ℤ))) (variable : ℕ) (first other : ℤ → Type 0) → ((z : ℤ) → first z ⊎ other z) → ((z : ℤ) → first z → other z → ⊥)
    → variable < length sets → length low ≡ length sets → length high ≡ length sets
    → IsCutAt variable first (set_at sets) (set_at low) → IsCutAt variable other (set_at sets) (set_at high)
    → points_of whole low + points_of whole high ≡ points_of whole sets
points_parts whole [] high [] variable first other either apart lt a b in_low in_high = absurd (omega (arith, lt))
points_parts whole (l ∷ low) high [] variable first other either apart lt a b in_low in_high = absurd (omega (arith, lt))
points_parts whole [] high (s ∷ sets) variable first other either apart lt a b in_low in_high = absurd (omega (arith, a))
points_parts whole (l ∷ low) [] (s ∷ sets) variable first other either apart lt a b in_low in_high = absurd (omega (arith, b))
points_parts whole (l ∷ low) (h ∷ high) (s ∷ sets) zero first other either apart lt a b in_low in_high =
    let x = count_parts l h s first other whole.0 (width_of whole) either apart
    (λ z. ((λ m. let k = (in_low 0 z).0 m in (k.0, k.1 refl)), (λ m. (in_low 0 z).1 (m.0, λ e. m.1))))
    (λ z. ((λ m. let k = (in_high 0 z).0 m in (k.0, k.1 refl)), (λ m. (in_high 0 z).1 (m.0, λ e. m.1)))) in
    let p = points_same whole low sets (omega (arith, a)) (λ i v. ((λ m. ((in_low (suc i) v).0 m).0), (λ m. (in_low (suc i) v).1 (m, λ e. absurd (omega (arith, e)))))) in
    let q = points_same whole high sets (omega (arith, b)) (λ i v. ((λ m. ((in_high (suc i) v).0 m).0), (λ m. (in_high (suc i) v).1 (m, λ e. absurd (omega (arith, e)))))) in
    rw (p, q) (distributed _ _ _ _ x)
  where
    distributed : (a b c p : ℕ) → a + b ≡ c → a * p + b * p ≡ c * p
    distributed a b c p e = grind arith
points_parts whole (l ∷ low) (h ∷ high) (s ∷ sets) (suc variable) first other either apart lt a b in_low in_high =
    let n = width_of whole in
    let x : count_from l whole.0 n ≡ count_from s whole.0 n = count_same l s whole.0 n (λ z. ((λ m. ((in_low 0 z).0 m).0), (λ m. (in_low 0 z).1 (m, λ e. absurd (omega (arith, e)))))) in
    let y : count_from h whole.0 n ≡ count_from s whole.0 n = count_same h s whole.0 n (λ z. ((λ m. ((in_high 0 z).0 m).0), (λ m. (in_high 0 z).1 (m, λ e. absurd (omega (arith, e)))))) in
    let rest = points_parts whole low high sets variable first other either apart (omega (arith, lt)) (omega (arith, a)) (omega (arith, b))
    (λ i v. ((λ m. let k = (in_low (suc i) v).0 m in (k.0, λ e. k.1 (ap suc e))), (λ m. (in_low (suc i) v).1 (m.0, λ e. m.1 (omega (arith, e))))))
    (λ i v. ((λ m. let k = (in_high (suc i) v).0 m in (k.0, λ e. k.1 (ap suc e))), (λ m. (in_high (suc i) v).1 (m.0, λ e. m.1 (omega (arith, e)))))) in
    rw (x, y) (factored _ _ _ _ rest)
  where
    count_same : (s t : List (ℤ × ℤ)) (low : ℤ) (n : ℕ) → ((z : ℤ) → Covers s z ↔ Covers t z) → count_from s low n ≡ count_from t low n
    count_same s t low n same =
        let a = count_le s t low n (λ z h. (same z).0 h) in
        let b = count_le t s low n (λ z h. (same z).1 h) in
        omega arith

    factored : (a p q r : ℕ) → p + q ≡ r → a * p + a * q ≡ a * r
    factored a p q r e = grind arith
