-- Runs that start at a number or below, found by looks at places that do not depend on what was seen.
use Rattle.std.proofs.Common.{◌≡◌, ◌⊎◌, ⊎_elim, inl, inr, ℕ, zero, suc, ◌+◌, ◌-◌, ◌<◌, ◌≤◌, ℤ, ◌≤ℤ◌, ◌<ℤ◌, Bool, true, false, cond, IsTrue, ◌↔◌, List, [], ◌∷◌, length, get_or, take, drop, refl, sym, subst, arith}
use Rattle.std.proofs.lemmas.Int.{ints, by_lt_z}
use Rattle.std.proofs.lemmas.Option.{slice_get_read}
use Rattle.std.specs.Prelude.{IfSome, IsSomeAnd, MatchOption, None, Option, Some, slice_get}
use Rattle.ivl_laws.specs.Sets.{IsBetween}
use Rattle.ivl_laws.specs.Runs.{Covers, IsMaximal, StartsBy}
use Rattle.ivl_laws.proofs.Adding.{untrue}
use Rattle.ivl_laws.proofs.Places.{runs_ascend}
use Rattle.ivl_places.specs.Neighbours.{IsRunWith}
use Rattle.ivl_places.proofs.Neighbours.{run_at_place}
use Rattle.ivl_places.specs.Places.{StartAbove}
use Rattle.ivl_places.proofs.Searching.{above_from, above_on}
use Rattle.ivl_places.proofs.Windows.{above_all, covers_split}

-- ---- what one look tells

-- the runs up to one that starts at v or below
starts_to : (v : ℤ) (L : List (ℤ × ℤ)) (k i : ℕ) (d : ℤ × ℤ) → k ≤ suc i → i < length L → (get_or L i d).0 ≤ℤ v → IsMaximal L → StartsBy v (take k L)
starts_to v [] k i d le h b m = absurd (omega arith)
starts_to v (r ∷ L) zero i d le h b m = tt
starts_to v (r ∷ L) (suc zero) zero d le h b m = (b, tt)
starts_to v (r ∷ L) (suc (suc k)) zero d le h b m = absurd (omega (arith, le))
starts_to v (r ∷ L) (suc k) (suc i) d le h b m =
    let up = runs_ascend (r ∷ L) zero (suc i) d m (omega arith) h in
    (omega (arith, ints, up, b, m.0), starts_to v L k i d (omega (arith, le)) (omega (arith, h)) b m.2)

none_behind : (v : ℤ) (L : List (ℤ × ℤ)) (k : ℕ) → length L ≤ k → StartAbove v (drop k L)
none_behind v [] zero h = tt
none_behind v [] (suc k) h = tt
none_behind v (r ∷ L) zero h = absurd (omega (arith, h))
none_behind v (r ∷ L) (suc k) h = none_behind v L k (omega (arith, h))

-- the first n runs start at v or below; those from place n + row on start above it, or place `next` is that place, and was not looked at yet
pub record IsUpTo (v : ℤ) (L : List (ℤ × ℤ)) (n row next : ℕ) : Type 0 where
  pub starts : StartsBy v (take n L)
  pub above : (next ≡ n + row) ⊎ StartAbove v (drop (n + row) L)

pub none_up_to : (v : ℤ) (L : List (ℤ × ℤ)) (row : ℕ) → IsUpTo v L 0 row row
none_up_to v L row = record { starts = tt; above = inl (omega arith) }

module _ (v : ℤ) (L : List (ℤ × ℤ)) (m : IsMaximal L) (n row next : ℕ) (u : IsUpTo v L n row next) where
  -- a look at a run up to place `next`: the first k runs start at v or below if it does
  pub up_to_goes : (look k n' next' : ℕ) (d : ℤ × ℤ) (t : Bool) → look ≤ next → look < length L → (IsTrue t ↔ ((get_or L look d).0 ≤ℤ v)) → k ≤ look + 1 → next' ≡ k + row → n' ≡ cond t k n → IsUpTo v L n' row next'
  up_to_goes look k n' next' d true up h is le e f =
      let R : ℕ → Type 0 = λ j. IsUpTo v L j row next' in
      subst R (sym f) (record { starts = starts_to v L k look d (omega (arith, le)) h (is.0 refl) m; above = inl e })
  up_to_goes look k n' next' d false up h is le e f =
      let R : ℕ → Type 0 = λ j. IsUpTo v L j row next' in
      let high : v <ℤ (get_or L look d).0 = by_lt_z v (get_or L look d).0 (λ lt. lt) (λ low. absurd (untrue false refl is low)) in
      let behind : (next ≡ n + row) → StartAbove v (drop (n + row) L) = λ same. above_on v L look (n + row) (omega (arith, same, up)) (above_from v L look d h high m) in
      subst R (sym f) (record { starts = u.starts; above = inr (⊎_elim behind (λ s. s) u.above) })

  -- all were looked at
  pub up_to_all : length L ≤ next → StartAbove v (drop (n + row) L)
  up_to_all h = ⊎_elim (λ e. none_behind v L (n + row) (omega (arith, h, e))) (λ s. s) u.above

pub chosen_is_less : (t : Bool) (k n most n' : ℕ) → n' ≡ cond t k n → k ≤ most → n ≤ most → n' ≤ most
chosen_is_less true k n most n' e a b = omega (arith, e, a)
chosen_is_less false k n most n' e a b = omega (arith, e, b)

-- ---- a search in a row of the runs

pub at_most_in_part : (L : List (ℤ × ℤ)) (n k : ℕ) → k ≤ length (take n L) → k ≤ n
at_most_in_part L n zero h = omega arith
at_most_in_part L zero (suc k) h = absurd (omega (arith, h))
at_most_in_part [] (suc n) (suc k) h = absurd (omega (arith, h))
at_most_in_part (r ∷ L) (suc n) (suc k) h = let le = at_most_in_part L n k (omega (arith, h)) in omega (arith, le)

starts_in_part : (v : ℤ) (L : List (ℤ × ℤ)) (n k : ℕ) → k ≤ n → StartsBy v (take k (take n L)) → StartsBy v (take k L)
starts_in_part v L n zero h s = tt
starts_in_part v [] n (suc k) h s = tt
starts_in_part v (r ∷ L) zero (suc k) h s = absurd (omega (arith, h))
starts_in_part v (r ∷ L) (suc n) (suc k) h s = (s.0, starts_in_part v L n k (omega (arith, h)) s.1)

above_in_part : (v : ℤ) (L : List (ℤ × ℤ)) (n k : ℕ) → k ≤ n → StartAbove v (drop k (take n L)) → StartAbove v (drop n L) → StartAbove v (drop k L)
above_in_part v [] n zero h s a = tt
above_in_part v [] n (suc k) h s a = tt
above_in_part v (r ∷ L) zero zero h s a = a
above_in_part v (r ∷ L) zero (suc k) h s a = absurd (omega (arith, h))
above_in_part v (r ∷ L) (suc n) zero h s a = (s.0, above_in_part v L n zero (omega arith) s.1 a)
above_in_part v (r ∷ L) (suc n) (suc k) h s a = above_in_part v L n k (omega (arith, h)) s a

-- the search in the n runs from place i on found k
pub starts_from_part : (v : ℤ) (L : List (ℤ × ℤ)) (i n k : ℕ) → k ≤ n → StartsBy v (take i L) → StartsBy v (take k (take n (drop i L))) → StartsBy v (take (i + k) L)
starts_from_part v L zero n k h b s = subst (λ (j : ℕ). StartsBy v (take j L)) (omega arith) (starts_in_part v L n k h s)
starts_from_part v [] (suc i) n k h b s = starts_of_none v (suc i + k)
  where
    starts_of_none : (v : ℤ) (j : ℕ) → StartsBy v (take j [])
    starts_of_none v zero = tt
    starts_of_none v (suc j) = tt
starts_from_part v (r ∷ L) (suc i) n k h b s =
    let e : suc (i + k) ≡ suc i + k = omega arith in
    subst (λ (j : ℕ). StartsBy v (take j (r ∷ L))) e (b.0, starts_from_part v L i n k h b.1 s)

pub above_from_part : (v : ℤ) (L : List (ℤ × ℤ)) (i n k : ℕ) → k ≤ n → StartAbove v (drop k (take n (drop i L))) → StartAbove v (drop (i + n) L) → StartAbove v (drop (i + k) L)
above_from_part v L zero n k h s a =
    let R : ℕ → Type 0 = λ j. StartAbove v (drop j L) in
    subst R (omega arith) (above_in_part v L n k h s (subst R (omega arith) a))
above_from_part v [] (suc i) n k h s a = none_behind v [] (suc i + k) (omega arith)
above_from_part v (r ∷ L) (suc i) n k h s a =
    let R : ℕ → Type 0 = λ j. StartAbove v (drop j (r ∷ L)) in
    let e : suc (i + k) ≡ suc i + k = omega arith in
    let f : suc i + n ≡ suc (i + n) = omega arith in
    subst R e (above_from_part v L i n k h s (subst R f a))

-- ---- the run before the place that was found

start_of_last : (v : ℤ) (L : List (ℤ × ℤ)) (i : ℕ) (d : ℤ × ℤ) → i < length L → StartsBy v (take (suc i) L) → (get_or L i d).0 ≤ℤ v
start_of_last v [] i d h s = absurd (omega (arith, h))
start_of_last v (r ∷ L) zero d h s = s.0
start_of_last v (r ∷ L) (suc i) d h s = start_of_last v L i d (omega (arith, h)) s.1

-- of the runs that start at v or below only the last can have it
in_last : (v : ℤ) (L : List (ℤ × ℤ)) (i : ℕ) (d : ℤ × ℤ) → i < length L → IsMaximal L → StartsBy v (take (suc i) L) → Covers (take (suc i) L) v → IsBetween (get_or L i d) v
in_last v [] i d h m s c = absurd (omega (arith, h))
in_last v (r ∷ L) zero d h m s (inl b) = b
in_last v (r ∷ L) zero d h m s (inr c) = absurd c
in_last v (r ∷ L) (suc i) d h m s (inl b) =
    let up = runs_ascend (r ∷ L) zero (suc i) d m (omega arith) h in
    let low = start_of_last v L i d (omega (arith, h)) s.1 in
    absurd (omega (arith, ints, up, low, b.1))
in_last v (r ∷ L) (suc i) d h m s (inr c) = in_last v L i d (omega (arith, h)) m.2 s.1 c

pub not_covered_above : (v : ℤ) (L : List (ℤ × ℤ)) → StartAbove v L → ¬ (Covers L v)
not_covered_above v L a c = let lt = above_all v L v a c in omega (arith, ints, lt)

pub not_covered : (v : ℤ) (L : List (ℤ × ℤ)) (place : ℕ) (run : ℤ × ℤ) → IsMaximal L → 0 < place → place ≤ length L → run ≡ get_or L (place - 1) run → ¬ (IsBetween run v) →
    StartsBy v (take place L) → StartAbove v (drop place L) → ¬ (Covers L v)
not_covered v L place run m some most is out s a c =
    let i = place - 1 in
    let e : place ≡ suc i = omega (arith, some) in
    ⊎_elim
    (λ t. out (subst (λ (p : ℤ × ℤ). IsBetween p v) (sym is)
    (in_last v L i run (omega (arith, some, most)) m (subst (λ (n : ℕ). StartsBy v (take n L)) e s) (subst (λ (n : ℕ). Covers (take n L) v) e t))))
    (λ d. not_covered_above v (drop place L) a d)
    (covers_split L place v c)

pub run_is_with : (v : ℤ) (L : List (ℤ × ℤ)) (place : ℕ) (run : ℤ × ℤ) → IsMaximal L → 0 < place → place ≤ length L → run ≡ get_or L (place - 1) run → IsBetween run v → IsRunWith v (Covers L) run
run_is_with v L place run m some most is has =
    let e : slice_get L (place - 1) ≡ Some run = slice_get_read L (length L) (place - 1) run refl (omega (arith, some, most)) is in
    run_at_place L (place - 1) run v m e (subst (λ (o : Option (ℤ × ℤ)). IsSomeAnd o (λ r. IsBetween r v)) (sym e) has)

pub found : (v : ℤ) (L : List (ℤ × ℤ)) (o : Option (ℤ × ℤ)) → IfSome o (IsRunWith v (Covers L)) → (o ≡ None → ¬ (Covers L v)) → MatchOption o (¬ (Covers L v)) (IsRunWith v (Covers L))
found v L None held none = none refl
found v L (Some run) held none = held
