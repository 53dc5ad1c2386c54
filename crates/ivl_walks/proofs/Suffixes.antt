-- The pairs of a list from a place on.
use Rattle.std.proofs.Common.{◌≡◌, ◌∙◌, ◌⊎◌, ◌++◌, inl, inr, Bool, true, false, ℕ, zero, suc, ◌+◌, ◌<◌, ◌≤◌, ℤ, List, [], ◌∷◌, Some, None, length, get_or, map, drop, option_map, refl, ap, ap₂, sym, subst, arith}
use Rattle.std.proofs.lemmas.List.{drop-map, map-append}
use Rattle.std.proofs.lemmas.Option.{get_or_from_slice_get, slice_get_within}
use Rattle.std.specs.Int.{from_bool}
use Rattle.std.specs.Prelude.{not, slice_get}
use Rattle.ivl_laws.specs.Sets.{IsSubset}
use Rattle.ivl_laws.specs.Runs.{Covers, IsMaximal, IsRunListIn}
use lib.Signed.{≤ℤ_refl}
use Rattle.ivl_walks.specs.Sinks.{IsRunIn}
use Rattle.ivl_walks.specs.HeldRun.{led_by}

pub rest_all : {X : Type 0} (pair : X → ℤ × ℤ) (L : List X) → map pair (drop 0 L) ≡ map pair L
rest_all pair [] = refl
rest_all pair (x ∷ L) = refl

rest_suc : {X : Type 0} (pair : X → ℤ × ℤ) (L : List X) (k : ℕ) (d : X) → k < length L → d ≡ get_or L k d → map pair (drop k L) ≡ pair d ∷ map pair (drop (suc k) L)
rest_suc pair [] k d h is = absurd (omega arith)
rest_suc pair (x ∷ L) zero d h is = ap₂ (λ (p : ℤ × ℤ) (M : List (ℤ × ℤ)). p ∷ M) (ap pair (sym is)) (sym (rest_all pair L))
rest_suc pair (x ∷ L) (suc k) d h is = rest_suc pair L k d (omega arith) is

pub rest_at : {X : Type 0} (pair : X → ℤ × ℤ) (L : List X) (k : ℕ) (d : X) → k < length L → d ≡ get_or L k d → map pair (drop k L) ≡ pair d ∷ map pair (drop (k + 1) L)
rest_at pair L k d h is =
    let more : suc k ≡ k + 1 = omega arith in
    subst (λ (n : ℕ). map pair (drop k L) ≡ pair d ∷ map pair (drop n L)) more (rest_suc pair L k d h is)

pub rest_none : {X : Type 0} (pair : X → ℤ × ℤ) (L : List X) (k : ℕ) → length L ≤ k → map pair (drop k L) ≡ []
rest_none pair [] zero h = refl
rest_none pair [] (suc k) h = refl
rest_none pair (x ∷ L) zero h = absurd (omega arith)
rest_none pair (x ∷ L) (suc k) h = rest_none pair L k (omega arith)

pub rest_maximal : {X : Type 0} (pair : X → ℤ × ℤ) (L : List X) (k : ℕ) → IsMaximal (map pair L) → IsMaximal (map pair (drop k L))
rest_maximal pair [] zero m = tt
rest_maximal pair [] (suc k) m = tt
rest_maximal pair (x ∷ L) zero m = m
rest_maximal pair (x ∷ L) (suc k) m = rest_maximal pair L k m.2

pub rest_list : {X : Type 0} (pair : X → ℤ × ℤ) (whole : ℤ × ℤ) (L : List X) (k : ℕ) → IsRunListIn whole (map pair L) → IsRunListIn whole (map pair (drop k L))
rest_list pair whole L k r = record { maximal = rest_maximal pair L k r.maximal; within = λ z c. r.within z (rest_covers pair L k z c) }
  where
    rest_covers : {X : Type 0} (pair : X → ℤ × ℤ) (L : List X) (k : ℕ) → IsSubset (Covers (map pair (drop k L))) (Covers (map pair L))
    rest_covers pair [] zero z c = c
    rest_covers pair [] (suc k) z c = c
    rest_covers pair (x ∷ L) zero z c = c
    rest_covers pair (x ∷ L) (suc k) z c = inr (rest_covers pair L k z c)

-- ---- the pair at a place, if there is one, beside those after it

led_suc : {X : Type 0} (pair : X → ℤ × ℤ) (L : List X) (k : ℕ) → map pair (drop k L) ≡ led_by (option_map pair (slice_get L k)) (map pair (drop (suc k) L))
led_suc pair [] zero = refl
led_suc pair [] (suc k) = refl
led_suc pair (x ∷ L) zero = ap (λ (M : List (ℤ × ℤ)). pair x ∷ M) (sym (rest_all pair L))
led_suc pair (x ∷ L) (suc k) = led_suc pair L k

pub led_at : {X : Type 0} (pair : X → ℤ × ℤ) (L : List X) (k : ℕ) → map pair (drop k L) ≡ led_by (option_map pair (slice_get L k)) (map pair (drop (k + 1) L))
led_at pair L k =
    let more : suc k ≡ k + 1 = omega arith in
    subst (λ (n : ℕ). map pair (drop k L) ≡ led_by (option_map pair (slice_get L k)) (map pair (drop n L))) more (led_suc pair L k)

pub none_from : {X : Type 0} (pair : X → ℤ × ℤ) (L : List X) (k : ℕ) → slice_get L k ≡ None → map pair (drop k L) ≡ []
none_from pair [] zero e = refl
none_from pair [] (suc k) e = refl
none_from pair (y ∷ L) zero e = absurd (cc)
none_from pair (y ∷ L) (suc k) e = none_from pair L k e

-- ---- the places move by a test

pub one_moves : (t : Bool) (n m : ℕ) → n ≡ from_bool t → m ≡ from_bool (not t) → n + m ≡ 1
one_moves true n m e f = let one : n ≡ 1 = e in let none : m ≡ 0 = f in omega (arith, one, none)
one_moves false n m e f = let none : n ≡ 0 = e in let one : m ≡ 1 = f in omega (arith, one, none)

-- ---- the same, where the pairs of the whole list are taken first

pub opened_map : {X : Type 0} (pair : X → ℤ × ℤ) (L : List X) (k : ℕ) (d : X) → k < length L → d ≡ get_or L k d → drop k (map pair L) ≡ pair d ∷ drop (k + 1) (map pair L)
opened_map pair L k d h is = drop-map pair k L ∙ rest_at pair L k d h is ∙ ap (λ (M : List (ℤ × ℤ)). pair d ∷ M) (sym (drop-map pair (k + 1) L))

pub map_rest : {X : Type 0} (pair : X → ℤ × ℤ) (a b R : List X) (i j : ℕ) → R ≡ drop i a ++ drop j b → map pair R ≡ drop i (map pair a) ++ drop j (map pair b)
map_rest pair a b R i j e = ap (λ (L : List _). map pair L) e ∙ map-append pair (drop i a) (drop j b) ∙ ap₂ (λ (L M : List (ℤ × ℤ)). L ++ M) (sym (drop-map pair i a)) (sym (drop-map pair j b))

pub map_ended : {X : Type 0} (pair : X → ℤ × ℤ) (a b : List X) (i j : ℕ) → (drop i a ≡ []) ⊎ (drop j b ≡ []) → (drop i (map pair a) ≡ []) ⊎ (drop j (map pair b) ≡ [])
map_ended pair a b i j (inl e) = inl (drop-map pair i a ∙ ap (λ (L : List _). map pair L) e)
map_ended pair a b i j (inr e) = inr (drop-map pair j b ∙ ap (λ (L : List _). map pair L) e)

pub none_split : {X : Type 0} (pair : X → ℤ × ℤ) (L : List X) → length L ≡ 0 → map pair L ≡ []
none_split pair [] e = refl
none_split pair (x ∷ L) e = absurd (omega arith)

-- ---- the pair at a place is a run in the range

pub first_is_run : (whole p : ℤ × ℤ) (M : List (ℤ × ℤ)) → IsRunListIn whole (p ∷ M) → IsRunIn whole p
first_is_run whole p M r = (
  r.maximal.0,
  ((r.within p.0 (inl (≤ℤ_refl p.0, r.maximal.0))).0, (r.within p.1 (inl (r.maximal.0, ≤ℤ_refl p.1))).1),
)

pub run_at : {X : Type 0} (pair : X → ℤ × ℤ) (whole : ℤ × ℤ) (L : List X) (k : ℕ) (d : X) → k < length L → d ≡ get_or L k d → IsRunListIn whole (map pair L) → IsRunIn whole (pair d)
run_at pair whole L k d h is r = first_is_run whole (pair d) (map pair (drop (k + 1) L)) (subst (IsRunListIn whole) (rest_at pair L k d h is) (rest_list pair whole L k r))

pub run_at_place : {X : Type 0} (pair : X → ℤ × ℤ) (whole : ℤ × ℤ) (L : List X) (k : ℕ) (d : X) → slice_get L k ≡ Some d → IsRunListIn whole (map pair L) → IsRunIn whole (pair d)
run_at_place pair whole L k d e r = run_at pair whole L k d (slice_get_within L k d e) (sym (get_or_from_slice_get L k d d e)) r
