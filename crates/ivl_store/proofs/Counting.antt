-- A set that lost a member has fewer.
use Rattle.std.proofs.Common.{◌≡◌, ◌↔◌, ◌⊎◌, ℕ, zero, suc, ◌≤◌, ◌<◌, inl, inr, refl, sym, subst, arith, cond, Bool, true, false, List, [], ◌∷◌}
use Rattle.std.specs.Prelude.{ℤ, pos, ◌+ℤ◌, ◌≤ℤ◌, ◌<ℤ◌, int_le, ◌&&◌, ◌||◌}
use Rattle.std.proofs.lemmas.Int.{ints, by_lt_z}
use Rattle.std.proofs.lemmas.Bool.{and_from, cases_Bool, or_cases, and_parts, both_ways}
use Rattle.ivl_laws.specs.Runs.{Covers}
use Rattle.ivl_store.specs.Measure.{covers, count_from}
use Rattle.ivl_laws.proofs.Orders.{le_true, true_le}

is_below : (a b : ℤ) → (a <ℤ b) ⊎ (b ≤ℤ a)
is_below a b = by_lt_z a b inl inr

or_left : (x y : Bool) → x ≡ true → (x || y) ≡ true
or_left true y h = refl
or_left false y h = absurd (cc)

or_right : (x y : Bool) → y ≡ true → (x || y) ≡ true
or_right true y h = refl
or_right false y h = h

pub covers-is : (runs : List (ℤ × ℤ)) (z : ℤ) → covers runs z ≡ true ↔ Covers runs z
covers-is [] z = ((λ h. absurd (both_ways false refl h)), (λ h. absurd h))
covers-is (run ∷ runs) z = (
  (λ h. elim (or_cases _ _ h) [
    | inl k ↦ (let p = and_parts _ _ k in inl (le_true _ _ p.0, le_true _ _ p.1))
    | inr k ↦ inr ((covers-is runs z).0 k)
  ]),
  (λ h. elim h [
    | inl k ↦ or_left _ _ (and_from _ _ (true_le _ _ k.0) (true_le _ _ k.1))
    | inr k ↦ or_right (int_le run.0 z && int_le z run.1) _ ((covers-is runs z).1 k)
  ]),
)

one_le : (b c : Bool) → (b ≡ true → c ≡ true) → cond b 1 0 ≤ cond c 1 0
one_le true true h = omega arith
one_le true false h = absurd (both_ways false refl (h refl))
one_le false c h = omega arith

one_less : (b c : Bool) → b ≡ false → c ≡ true → cond b 1 0 < cond c 1 0
one_less b c h k = rw (h, k) (omega arith)

pub count_le : (inner outer : List (ℤ × ℤ)) (low : ℤ) (n : ℕ) → ((z : ℤ) → Covers inner z → Covers outer z) → count_from inner low n ≤ count_from outer low n
unfolding count_from
count_le inner outer low zero w = omega arith
count_le inner outer low (suc n) w =
    let h = count_le inner outer low n w in
    let k = one_le (covers inner (low +ℤ pos n)) (covers outer (low +ℤ pos n)) (λ t. (covers-is outer _).1 (w _ ((covers-is inner _).0 t))) in
    omega arith

pub count_less : (inner outer : List (ℤ × ℤ)) (low : ℤ) (n : ℕ) → ((z : ℤ) → Covers inner z → Covers outer z)
    → (v : ℤ) → low ≤ℤ v → v <ℤ (low +ℤ pos n) → Covers outer v → (Covers inner v → ⊥) → count_from inner low n < count_from outer low n
unfolding count_from
count_less inner outer low zero w v h k m gone = absurd (omega (arith, ints))
count_less inner outer low (suc n) w v h k m gone =
    elim (is_below v (low +ℤ pos n)) [
      | inl b ↦ (let i = count_less inner outer low n w v h b m gone in
          let j = one_le (covers inner (low +ℤ pos n)) (covers outer (low +ℤ pos n)) (λ t. (covers-is outer _).1 (w _ ((covers-is inner _).0 t))) in
          omega arith)
      | inr b ↦ (let same : v ≡ low +ℤ pos n = omega (arith, ints) in
          let i = count_le inner outer low n w in
          let t : covers outer (low +ℤ pos n) ≡ true = (covers-is outer _).1 (subst (Covers outer) same m) in
          let f : covers inner (low +ℤ pos n) ≡ false = elim (cases_Bool (covers inner (low +ℤ pos n))) [
            | inl yes_in ↦ absurd (gone (subst (Covers inner) (sym same) ((covers-is inner _).0 yes_in)))
            | inr no_in ↦ no_in
          ] in
          let j = one_less (covers inner (low +ℤ pos n)) (covers outer (low +ℤ pos n)) f t in
          omega arith)
    ]
