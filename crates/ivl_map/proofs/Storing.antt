-- What is written stands in the list itself.
use Rattle.std.proofs.Common.{◌≡◌, inl, ℤ, ◌≤ℤ◌, List, ◌∷◌, ◌++◌, refl, sym, subst, arith}
use Rattle.std.proofs.lemmas.Int.{ints}
use Rattle.ivl_laws.specs.Sets.{IsBetween}
use Rattle.ivl_laws.specs.Counts.{IsIn}
use Rattle.ivl_laws.proofs.Counts.{in-append_right}
use Rattle.ivl_map.specs.Lookups.{IsStoredAt}

-- x is the value of the numbers of p where an entry that reaches over p has it
pub stored_in : {V : Type 0} (D E F : List ((ℤ × ℤ) × V)) (p r : ℤ × ℤ) (x : V) (lo hi : ℤ) → D ≡ E ++ ((r, x) ∷ F) → r ≡ (lo, hi) → lo ≤ℤ p.0 → p.1 ≤ℤ hi → (z : ℤ) → IsBetween p z → IsStoredAt D z x
stored_in {V} D E F p r x lo hi is ends low high z b =
    let e : (ℤ × ℤ) × V = (r, x) in
    let P : List ((ℤ × ℤ) × V) → Type 0 = λ L. IsIn L e in
    let Q : ℤ × ℤ → Type 0 = λ q. IsBetween q z in (
      r,
      subst P (sym is) (in-append_right E (e ∷ F) e (inl refl)),
      subst Q (sym ends) (omega (arith, ints, low, b.0), omega (arith, ints, high, b.1)),
    )
