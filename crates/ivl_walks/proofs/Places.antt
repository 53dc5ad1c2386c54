-- Runs that are laid in a room one by one, from left to right.
use Rattle.std.proofs.Common.{◌≡◌, ℕ, ◌+◌, ◌-◌, ◌≤◌, ℤ, ◌≤ℤ◌, List, [], ◌∷◌, ◌++◌, length, get_or, set, take, map, ◌↔◌, Bool, true, false, IfSome, IsTrue, zero, suc, refl, ap, ap₂, ◌∙◌, sym, subst, arith}
use Rattle.std.proofs.lemmas.Int.{ints}
use Rattle.std.proofs.lemmas.List.{length-map, length-take-le, map-append, map-set, set-get_or, take-map, take-take}
use Rattle.std.proofs.Math.Seq.{take-append_seam, take-length}
use Rattle.std.specs.Int.{from_bool}
use Rattle.std.specs.Prelude.{cond, slice_get}
use Rattle.ivl_walks.specs.Sinks.{AddsFilled, Stands, laid}
use Rattle.ivl_walks.proofs.AloneSteps.{one_at_most}
use Rattle.ivl_walks.proofs.Laying.{length_more}

pub laid_more : (L room : List (ℤ × ℤ)) (p : ℤ × ℤ) → set (laid L room) (length L) p ≡ laid (L ++ p ∷ []) room
laid_more [] [] p = refl
laid_more [] (q ∷ room) p = refl
laid_more (r ∷ L) [] p = refl
laid_more (r ∷ L) (q ∷ room) p = ap (λ (M : List (ℤ × ℤ)). r ∷ M) (laid_more L room p)

-- the last run of a list is written over, or a run after it
pub laid_over : (L room : List (ℤ × ℤ)) (k : ℕ) (p : ℤ × ℤ) → k ≤ length L → length L ≤ k + 1 → set (laid L room) k p ≡ laid (take k L ++ p ∷ []) room
laid_over [] [] zero p a b = refl
laid_over [] (q ∷ room) zero p a b = refl
laid_over [] room (suc k) p a b = absurd (omega arith)
laid_over (r ∷ []) [] zero p a b = refl
laid_over (r ∷ []) (q ∷ room) zero p a b = refl
laid_over (r ∷ s ∷ L) room zero p a b = absurd (omega arith)
laid_over (r ∷ L) [] (suc k) p a b = refl
laid_over (r ∷ L) (q ∷ room) (suc k) p a b = ap (λ (M : List (ℤ × ℤ)). r ∷ M) (laid_over L room k p (omega arith) (omega arith))

-- a pair that is written by a test
pub put_by_test : {X : Type 0} (pair : X → ℤ × ℤ) (t : Bool) (out : List X) (k : ℕ) (run old : X) → old ≡ get_or out k old →
    map pair (set out k (cond t run old)) ≡ cond t (set (map pair out) k (pair run)) (map pair out)
put_by_test pair true out k run old e = map-set pair out k run
put_by_test pair false out k run old e = ap (λ (L : List _). map pair L) (ap (λ x. set out k x) e ∙ set-get_or out k old)

-- what was just written stands at its place
pub written_stands : (room room' : List (ℤ × ℤ)) (p : ℤ × ℤ) (told place : ℕ) → room' ≡ set room place p → place ≡ told - 1 → Stands p room' told
written_stands room room' p told place e h = subst (λ (i : ℕ). IfSome (slice_get room' i) (λ q. q ≡ p)) h (subst (λ (L : List (ℤ × ℤ)). IfSome (slice_get L place) (λ q. q ≡ p)) (sym e) (there room place))
  where
    there : (L : List (ℤ × ℤ)) (i : ℕ) → IfSome (slice_get (set L i p) i) (λ q. q ≡ p)
    there [] zero = tt
    there [] (suc i) = tt
    there (q ∷ L) zero = refl
    there (q ∷ L) (suc i) = there L i

-- what stands there is written once more
pub written_again : (room : List (ℤ × ℤ)) (p : ℤ × ℤ) (i : ℕ) → IfSome (slice_get room i) (λ q. q ≡ p) → set room i p ≡ room
written_again [] p zero s = refl
written_again [] p (suc i) s = refl
written_again (q ∷ L) p zero s = ap (λ x. x ∷ L) (sym s)
written_again (q ∷ L) p (suc i) s = ap (λ (M : List (ℤ × ℤ)). q ∷ M) (written_again L p i s)

-- ---- what a step writes to a room in which a list is laid

module _ (L base room room' : List (ℤ × ℤ)) (k : ℕ) (p : ℤ × ℤ) (is : room ≡ laid L base) where
  pub lays_next : room' ≡ set room k p → k ≡ length L → room' ≡ laid (L ++ p ∷ []) base
  lays_next e h = e ∙ ap (λ (M : List (ℤ × ℤ)). set M k p) is ∙ ap (λ (n : ℕ). set (laid L base) n p) h ∙ laid_more L base p

  pub lays_over : (t : Bool) (n : ℕ) → room' ≡ set room k p → n ≡ length L → k ≡ n - from_bool t → room' ≡ laid (take (length L - from_bool t) L ++ p ∷ []) base
  lays_over t n e h f =
      let one = one_at_most t in
      let same : k ≡ length L - from_bool t = omega (arith, h, f) in
      e ∙ ap (λ (M : List (ℤ × ℤ)). set M k p) is ∙ ap (λ (m : ℕ). set (laid L base) m p) same ∙ laid_over L base (length L - from_bool t) p (omega arith) (omega (arith, one))

  pub lays_by : (t : Bool) → room' ≡ cond t (set room k p) room → k ≤ length L → length L ≤ k + 1 → room' ≡ laid (cond t (take k L ++ p ∷ []) L) base
  lays_by true e a b = e ∙ ap (λ (M : List (ℤ × ℤ)). set M k p) is ∙ laid_over L base k p a b
  lays_by false e a b = e ∙ is

pub count_over : (t : Bool) (L : List (ℤ × ℤ)) (n k : ℕ) (p : ℤ × ℤ) → n ≡ length L → k ≡ n - from_bool t → k + 1 ≡ length (take (length L - from_bool t) L ++ p ∷ [])
count_over t L n k p h f = length_more (take (length L - from_bool t) L) p k (omega (arith, h, f) ∙ sym (length-take-le (length L - from_bool t) L (omega arith)))

-- a pair that is filled is written behind the last, and else the last once more
pub adds_or_repeats : {X : Type 0} (pair : X → ℤ × ℤ) (N : Type 0) (base room room' : List (ℤ × ℤ)) (last run chosen : X) (t : Bool) (count told place : ℕ) → (IsTrue t ↔ ((pair run).0 ≤ℤ (pair run).1)) → chosen ≡ cond t run last →
    told ≡ count + from_bool t → place ≡ told - 1 → room' ≡ set room place (pair chosen) → Stands (pair last) room count →
    AddsFilled (pair run) (λ L. N × (count ≡ length L) × (room ≡ laid L base)) (λ L. N × (told ≡ length L) × (room' ≡ laid L base))
adds_or_repeats pair N base room room' last run chosen true count told place is c n h e s = record {
  crossed = λ lt. let le = is.0 refl in absurd (omega (arith, ints, lt, le));
  filled = λ le L (m, k, r).
      (m, n ∙ length_more L (pair run) count k, lays_next L base room room' place (pair run) r (e ∙ ap (λ x. set room place (pair x)) c) (omega (arith, n, h) ∙ k));
}
adds_or_repeats pair N base room room' last run chosen false count told place is c n h e s = record {
  crossed = λ lt L (m, k, r). (m, omega (arith, n, k), e ∙ ap₂ (λ i x. set room i (pair x)) (omega (arith, n, h)) c ∙ written_again room (pair last) (count - 1) s ∙ r);
  filled = λ le. absurd (let u = is.1 le in cc);
}

-- ---- the same, where the list is a vector

module _ {X : Type 0} (pair : X → ℤ × ℤ) (items items' items'' : List X) (k : ℕ) (x : X) (e : items'' ≡ items' ++ x ∷ []) (f : items' ≡ take k items) where
  pub vec_over : (t : Bool) (L : List (ℤ × ℤ)) → k ≡ length items - from_bool t → map pair items ≡ L → map pair items'' ≡ take (length L - from_bool t) L ++ pair x ∷ []
  vec_over t L h is =
      let same : length items ≡ length L = sym (length-map items pair) ∙ ap (λ (M : List (ℤ × ℤ)). length M) is in
      let at : k ≡ length L - from_bool t = omega (arith, h, same) in
      ap (λ (M : List X). map pair M) (e ∙ ap (λ (M : List X). M ++ x ∷ []) f) ∙ map-append pair (take k items) (x ∷ []) ∙
      ap (λ (M : List (ℤ × ℤ)). M ++ pair x ∷ []) (sym (take-map pair k items) ∙ ap (λ (M : List (ℤ × ℤ)). take k M) is ∙ ap (λ (n : ℕ). take n L) at)

  vec_is : (L : List (ℤ × ℤ)) → take (length L) (map pair items) ≡ L → k ≤ length L → map pair items'' ≡ take k L ++ pair x ∷ []
  vec_is L is le =
      ap (λ (M : List X). map pair M) (e ∙ ap (λ (M : List X). M ++ x ∷ []) f) ∙ map-append pair (take k items) (x ∷ []) ∙
      ap (λ (M : List (ℤ × ℤ)). M ++ pair x ∷ []) (sym (take-map pair k items) ∙ sym (take-take k (length L) (map pair items) le) ∙ ap (λ (M : List (ℤ × ℤ)). take k M) is)

  pub vec_put : (t : Bool) (L : List (ℤ × ℤ)) (n : ℕ) → n ≡ length items'' → take (length L) (map pair items) ≡ L → k ≤ length L → (t ≡ false → k ≡ length L) →
      (take (length (cond t (take k L ++ pair x ∷ []) L)) (map pair items'') ≡ cond t (take k L ++ pair x ∷ []) L) × (length (cond t (take k L ++ pair x ∷ []) L) ≤ n)
  vec_put true L n h is le at =
      let same = vec_is L is le in
      let long : n ≡ length (take k L ++ pair x ∷ []) = h ∙ sym (length-map items'' pair) ∙ ap (λ (M : List (ℤ × ℤ)). length M) same in
      (ap (λ (M : List (ℤ × ℤ)). take (length (take k L ++ pair x ∷ [])) M) same ∙ take-length (take k L ++ pair x ∷ []), omega (arith, long))
  vec_put false L n h is le at =
      let all : take k L ≡ L = ap (λ (m : ℕ). take m L) (at refl) ∙ take-length L in
      let same : map pair items'' ≡ L ++ pair x ∷ [] = vec_is L is le ∙ ap (λ (M : List (ℤ × ℤ)). M ++ pair x ∷ []) all in
      let long : n ≡ length (L ++ pair x ∷ []) = h ∙ sym (length-map items'' pair) ∙ ap (λ (M : List (ℤ × ℤ)). length M) same in
      let more = length_more L (pair x) (length L) refl in
      (ap (λ (M : List (ℤ × ℤ)). take (length L) M) same ∙ take-append_seam L (pair x ∷ []), omega (arith, long, more))

pub vec_cut : {X : Type 0} (pair : X → ℤ × ℤ) (items items' : List X) (k : ℕ) (L : List (ℤ × ℤ)) → items' ≡ take k items → take (length L) (map pair items) ≡ L → k ≡ length L → map pair items' ≡ L
vec_cut pair items items' k L e is h = ap (λ (M : List _). map pair M) e ∙ sym (take-map pair k items) ∙ ap (λ (n : ℕ). take n (map pair items)) h ∙ is
