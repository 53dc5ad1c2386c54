-- The elements of an interval's array.
use Rattle.std.proofs.Common.{◌≡◌, ◌≢◌, suc, List, [], ◌∷◌, length, refl, ap}
use Rattle.std.specs.Prelude.{ℤ, Err}
use Rattle.serde_json.specs.View.{items_view}
use Rattle.serde_json.specs.declared.value.Value.{Value}
use Rattle.ivl_json.specs.declared.faults.ItemFault.{ItemFault}
use Rattle.ivl_json.specs.Reading.{count_of, elements_read}

count_of-items_view : (vs : List Value) → count_of (items_view vs) ≡ length vs
count_of-items_view [] = refl
count_of-items_view (v ∷ vs) = ap suc (count_of-items_view vs)

-- an array of no two elements is refused for how many there are
pub elements_read-not_two : (whole : ℤ × ℤ) (vs : List Value) → length vs ≢ 2 → elements_read whole (items_view vs) ≡ Err (ItemFault.Length (length vs))
elements_read-not_two whole [] other = refl
elements_read-not_two whole (v ∷ []) other = refl
elements_read-not_two whole (v ∷ w ∷ []) other = absurd (other refl)
elements_read-not_two whole (v ∷ w ∷ x ∷ more) other = ap (λ n. Err (ItemFault.Length (suc (suc (suc n))))) (count_of-items_view more)
