-- A run that is held beside the rest of its list.
use Rattle.std.proofs.Common.{◌≡◌, ◌⊎◌, inl, inr, ℤ, List, [], ◌∷◌, Option, Some, None, refl, subst, ap}
use Rattle.std.specs.Option.{option_zip}
use Rattle.ivl_laws.specs.Runs.{IsMaximal}
use Rattle.ivl_walks.specs.HeldRun.{led_by}

-- the list that is left to read is maximal, and at its end where no run is held
pub record IsLed (held : Option (ℤ × ℤ)) (L : List (ℤ × ℤ)) : Type 0 where
  pub maximal : IsMaximal (led_by held L)
  pub ended : held ≡ None → L ≡ []

pub zip_some : {X : Type 0} (a b : Option X) (p : X × X) → option_zip a b ≡ Some p → (a ≡ Some p.0) × (b ≡ Some p.1)
zip_some None b p e = absurd (cc)
zip_some (Some x) None p e = absurd (cc)
zip_some {X} (Some x) (Some y) p e = let same : (x, y) ≡ p = cc in (ap (λ (t : X × X). Some t.0) same, ap (λ (t : X × X). Some t.1) same)

pub zip_none : {X : Type 0} (a b : Option X) → option_zip a b ≡ None → (a ≡ None) ⊎ (b ≡ None)
zip_none None b e = inl refl
zip_none (Some x) None e = inr refl
zip_none (Some x) (Some y) e = absurd (cc)

-- a held run leads its list
pub leads : (held : Option (ℤ × ℤ)) (p : ℤ × ℤ) (L : List (ℤ × ℤ)) → held ≡ Some p → led_by held L ≡ p ∷ L
leads held p L e = ap (λ (o : Option (ℤ × ℤ)). led_by o L) e

-- where none is held, nothing is left
pub leads_none : (held : Option (ℤ × ℤ)) (L : List (ℤ × ℤ)) → IsLed held L → held ≡ None → led_by held L ≡ []
leads_none None L u e = u.ended refl
leads_none (Some p) L u e = absurd (cc)

pub open_held : (held : Option (ℤ × ℤ)) (p : ℤ × ℤ) (L : List (ℤ × ℤ)) → IsLed held L → held ≡ Some p → IsMaximal (p ∷ L)
open_held held p L u e = subst IsMaximal (leads held p L e) u.maximal
