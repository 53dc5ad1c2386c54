-- The runs of two lists joined from the left: what is written ends with the run under way.
use Rattle.std.proofs.Common.{◌≡◌, ◌↔◌, ◌∙◌, inl, inr, ℕ, ◌+◌, ◌-◌, ◌≤◌, Bool, true, false, IsTrue, ℤ, ◌≤ℤ◌, List, [], ◌∷◌, ◌++◌, Some, None, length, map, drop, refl, ap, sym, subst, arith}
use Rattle.std.specs.Prelude.{cond, not, slice_get, option_map}
use Rattle.std.specs.Int.{from_bool, int_max}
use Rattle.std.proofs.lemmas.Int.{ints, clamps, by_lt_z}
use Rattle.std.proofs.lemmas.List.{length-map}
use Rattle.ivl_laws.specs.Sets.{Union}
use Rattle.ivl_laws.specs.Runs.{AddsRun, Covers, IsMaximal, IsRunListIn, IsRunsOf, StartsBy}
use Rattle.ivl_laws.specs.Walks.{StartsFrom, TakesFirst}
use Rattle.ivl_laws.proofs.Adding.{untrue}
use Rattle.ivl_laws.proofs.Lengths.{length_of_union}
use Rattle.ivl_laws.proofs.Walks.{IsUniting, uniting_begins, uniting_next}
use Rattle.ivl_walks.specs.HeldRun.{led_by}
use Rattle.ivl_walks.specs.Sinks.{IsRunIn}
use Rattle.ivl_walks.proofs.Laying.{IsHeld}
use Rattle.ivl_walks.proofs.Suffixes.{first_is_run, led_at, none_from, rest_all, rest_list}
use Rattle.ivl_walks.proofs.Unions.{all_united, taken_starts, unites_first}

-- ---- the pair that is taken

pub opened_at : {X : Type 0} (pair : X → ℤ × ℤ) (L : List X) (k : ℕ) (x : X) → slice_get L k ≡ Some x → map pair (drop k L) ≡ pair x ∷ map pair (drop (k + 1) L)
opened_at pair L k x e = led_at pair L k ∙ ap (λ o. led_by (option_map pair o) (map pair (drop (k + 1) L))) e

starts : (A B : List (ℤ × ℤ)) (q : ℤ × ℤ) (v : ℤ) → A ≡ q ∷ B → v ≤ℤ q.0 → StartsFrom v A
starts A B q v e h = subst (StartsFrom v) (sym e) h

module _ {X : Type 0} (pair : X → ℤ × ℤ) (a b : List X) (i j : ℕ) where
  abbrev pub TakesTo : ℕ → ℕ → X → Type 0
  TakesTo i' j' x = TakesFirst (map pair (drop i a)) (map pair (drop j b)) (map pair (drop i' a)) (map pair (drop j' b)) (pair x)

  -- the pair that starts first is taken by a test, and its place moves
  pub takes_next : (t : Bool) (x y : X) (v w : ℤ) (n m : ℕ) → slice_get a i ≡ Some x → slice_get b j ≡ Some y → v ≡ (pair x).0 → w ≡ (pair y).0 → (IsTrue t ↔ (v ≤ℤ w)) →
      n ≡ from_bool t → m ≡ from_bool (not t) → TakesTo (i + n) (j + m) (cond t x y)
  takes_next true x y v w n m e f ev ew h en em =
      let one : n ≡ 1 = en in let none : m ≡ 0 = em in let le = h.0 refl in
      inl (
        opened_at pair a i x e ∙ ap (λ (k : ℕ). pair x ∷ map pair (drop k a)) (omega (arith, one)),
        ap (λ (k : ℕ). map pair (drop k b)) (omega (arith, none)),
        starts _ _ (pair y) (pair x).0 (opened_at pair b j y f) (omega (arith, ints)),
      )
  takes_next false x y v w n m e f ev ew h en em =
      let none : n ≡ 0 = en in let one : m ≡ 1 = em in
      let le : w ≤ℤ v = by_lt_z v w (λ lt. absurd (untrue false refl h (omega (arith, ints)))) (λ le. le) in
      inr (
        opened_at pair b j y f ∙ ap (λ (k : ℕ). pair y ∷ map pair (drop k b)) (omega (arith, one)),
        ap (λ (k : ℕ). map pair (drop k a)) (omega (arith, none)),
        starts _ _ (pair x) (pair y).0 (opened_at pair a i x e) (omega (arith, ints)),
      )

  pub takes_left_alone : (x : X) → slice_get a i ≡ Some x → slice_get b j ≡ None → TakesTo (i + 1) j x
  takes_left_alone x e f = inl (opened_at pair a i x e, refl, subst (StartsFrom (pair x).0) (sym (none_from pair b j f)) tt)

  pub takes_right_alone : (y : X) → slice_get a i ≡ None → slice_get b j ≡ Some y → TakesTo i (j + 1) y
  takes_right_alone y e f = inr (opened_at pair b j y f, refl, subst (StartsFrom (pair y).0) (sym (none_from pair a i e)) tt)

-- ---- what is written, and what the two lists have left

-- p is the last run that is written
pub record IsUnited (A B : List (ℤ × ℤ)) (S : ℤ → Type 0) (H : List (ℤ × ℤ) → Type 0) (p : ℤ × ℤ) (W : List (ℤ × ℤ)) : Type 0 where
  pub state : IsUniting W A B S
  pub last : Some p ≡ slice_get W (length W - 1)
  pub held : H W

pub united_next : (A B A' B' : List (ℤ × ℤ)) (S : ℤ → Type 0) (H H' : List (ℤ × ℤ) → Type 0) (p q r : ℤ × ℤ) → TakesFirst A B A' B' q →
    ((L : List (ℤ × ℤ)) → H L → IsMaximal L → StartsBy q.0 L → Some p ≡ slice_get L (length L - 1) → (M : List (ℤ × ℤ)) × H' M × AddsRun L q M × (Some r ≡ slice_get M (length M - 1))) →
    (W : List (ℤ × ℤ)) × IsUnited A B S H p W → (W : List (ℤ × ℤ)) × IsUnited A' B' S H' r W
united_next A B A' B' S H H' p q r t adds (W, u) =
    let (M, h, a, e) = adds W u.held u.state.maximal (taken_starts W A B A' B' q S u.state t) u.last in
    (M, record { state = uniting_next W M A B A' B' q S u.state t a.runs a.starts; last = e; held = h })

pub united_ends : (A B : List (ℤ × ℤ)) (S : ℤ → Type 0) (H : List (ℤ × ℤ) → Type 0) (p : ℤ × ℤ) → A ≡ [] → B ≡ [] → (W : List (ℤ × ℤ)) × IsUnited A B S H p W → (L : List (ℤ × ℤ)) × IsHeld S H L
united_ends A B S H p e f (W, u) = (W, record { runs = all_united W A B S e f u.state; held = u.held })

-- ---- that what is held is a run in the range

pub taken_is_run : (whole : ℤ × ℤ) (A B A' B' : List (ℤ × ℤ)) (q : ℤ × ℤ) → IsRunListIn whole A → IsRunListIn whole B → TakesFirst A B A' B' q → IsRunIn whole q
taken_is_run whole A B A' B' q r s (inl (e, f, h)) = first_is_run whole q A' (subst (IsRunListIn whole) e r)
taken_is_run whole A B A' B' q r s (inr (e, f, h)) = first_is_run whole q B' (subst (IsRunListIn whole) e s)

pub joined_is_run : (joined : Bool) (whole p q r : ℤ × ℤ) → IsRunIn whole p → IsRunIn whole q → r.0 ≡ cond joined p.0 q.0 → r.1 ≡ int_max p.1 q.1 → IsRunIn whole r
joined_is_run true whole p q r (o, (a, b)) (o', (a', b')) low high = (omega (arith, ints, clamps), (omega (arith, ints, clamps), omega (arith, ints, clamps)))
joined_is_run false whole p q r (o, (a, b)) (o', (a', b')) low high = (omega (arith, ints, clamps), (omega (arith, ints, clamps), omega (arith, ints, clamps)))

-- ---- the same, by the places in two lists

module _ {X : Type 0} (pair : X → ℤ × ℤ) (a b : List X) where
  abbrev pub union_of : ℤ → Type 0
  union_of = Union (Covers (map pair a)) (Covers (map pair b))

  from_start : (A' B' : List (ℤ × ℤ)) (p : ℤ × ℤ) → TakesFirst (map pair (drop 0 a)) (map pair (drop 0 b)) A' B' p → TakesFirst (map pair a) (map pair b) A' B' p
  from_start A' B' p t = subst (λ (N : List (ℤ × ℤ)). TakesFirst (map pair a) N A' B' p) (rest_all pair b) (subst (λ (M : List (ℤ × ℤ)). TakesFirst M (map pair (drop 0 b)) A' B' p) (rest_all pair a) t)

  pub united_first : (whole : ℤ × ℤ) (A' B' : List (ℤ × ℤ)) (p : ℤ × ℤ) (H H' : List (ℤ × ℤ) → Type 0) → IsRunListIn whole (map pair a) → IsRunListIn whole (map pair b) →
      TakesFirst (map pair (drop 0 a)) (map pair (drop 0 b)) A' B' p → H [] → ((L : List (ℤ × ℤ)) → H L → H' (L ++ p ∷ [])) → (W : List (ℤ × ℤ)) × IsUnited A' B' union_of H' p W
  united_first whole A' B' p H H' m n t h adds = (
    p ∷ [],
    record {
      state = unites_first [] (p ∷ []) (map pair a) (map pair b) A' B' p refl refl m.maximal n.maximal (from_start A' B' p t);
      last = refl;
      held = adds [] h;
    },
  )

  pub united_none : (whole : ℤ × ℤ) (H : List (ℤ × ℤ) → Type 0) → IsRunListIn whole (map pair a) → IsRunListIn whole (map pair b) →
      map pair (drop 0 a) ≡ [] → map pair (drop 0 b) ≡ [] → H [] → (L : List (ℤ × ℤ)) × IsHeld union_of H L
  united_none whole H m n e f h = (
    [],
    record {
      runs = all_united [] (map pair a) (map pair b) union_of (sym (rest_all pair a) ∙ e) (sym (rest_all pair b) ∙ f) (uniting_begins (map pair a) (map pair b) m.maximal n.maximal);
      held = h;
    },
  )

  pub next_is_run : (whole : ℤ × ℤ) (i j : ℕ) (A' B' : List (ℤ × ℤ)) (q : ℤ × ℤ) → IsRunListIn whole (map pair a) → IsRunListIn whole (map pair b) →
      TakesFirst (map pair (drop i a)) (map pair (drop j b)) A' B' q → IsRunIn whole q
  next_is_run whole i j A' B' q m n t = taken_is_run whole _ _ A' B' q (rest_list pair whole a i m) (rest_list pair whole b j n) t

  pub union_at_most : (L : List (ℤ × ℤ)) → IsRunsOf L union_of → length L ≤ length a + length b
  union_at_most L r =
      let few = length_of_union (map pair a) (map pair b) L r in
      let first = length-map a pair in let second = length-map b pair in omega (arith, few, first, second)
