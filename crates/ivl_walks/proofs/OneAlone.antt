-- What exactly one of two run lists has, written from the left: nothing below a number is left to write.
use Rattle.std.proofs.Common.{◌≡◌, ◌↔◌, ◌⊎◌, inl, ⊎_elim, Bool, true, false, IsTrue, ℕ, ◌+◌, ◌-◌, ◌<◌, ◌≤◌, ℤ, pos, ◌+ℤ◌, ◌-ℤ◌, ◌≤ℤ◌, List, [], ◌∷◌, ◌++◌, length, drop, set, take, refl, ap, sym, subst, ◌∙◌, arith}
use Rattle.std.proofs.lemmas.Int.{ints, clamps, by_lt_z}
use Rattle.std.proofs.lemmas.List.{length-map, length-take-le, take-append-le, take-set, take_more_set}
use Rattle.std.proofs.Math.Seq.{take-append_seam}
use Rattle.std.specs.Int.{from_bool, int_max, int_min}
use Rattle.std.specs.Prelude.{◌&&◌, cond, map}
use Rattle.ivl_laws.specs.Sets.{SymmetricDifference}
use Rattle.ivl_laws.specs.Runs.{Covers, IsRunListIn, IsRunsOf}
use Rattle.ivl_laws.proofs.Adding.{untrue}
use Rattle.ivl_laws.proofs.Runs.{covered_from}
use Rattle.ivl_walks.specs.Sinks.{PutsAt}
use Rattle.ivl_walks.proofs.Alone.{IsAlone, alone_from, alone_starts}
use Rattle.ivl_walks.proofs.AloneSteps.{all_alone, alone_next, ends_alone, one_at_most}
use Rattle.ivl_walks.proofs.Placing.{MeetsAt}
use Rattle.ivl_walks.proofs.Laying.{IsHeld, length_more}
use Rattle.ivl_walks.proofs.RunBounds.{length_of_one_alone}

-- what is written, and what is still to write to make up S
pub record IsOneAlone (A B : List (ℤ × ℤ)) (f s : ℤ) (joined : Bool) (S : ℤ → Type 0) (H : List (ℤ × ℤ) → Type 0) (told : ℕ) (W : List (ℤ × ℤ)) : Type 0 where
  pub state : IsAlone W A B f s joined S
  pub count : told ≡ length W
  pub held : H W

pub one_alone_begins : (whole : ℤ × ℤ) (A B : List (ℤ × ℤ)) (H : List (ℤ × ℤ) → Type 0) (f s : ℤ) → f ≡ whole.0 → IsRunListIn whole A → IsRunListIn whole B → H [] →
    (W : List (ℤ × ℤ)) × IsOneAlone A B f s false (SymmetricDifference (Covers A) (Covers B)) H 0 W
one_alone_begins whole A B H f s e a b h = ([], record { state = alone_starts whole [] A B f s refl e a b; count = refl; held = h })

-- where the last run goes on, one of the two lists has the next number alone, so that its first run does not start with that of the other
joined_is_filled : (joined : Bool) (W A B : List (ℤ × ℤ)) (p q : ℤ × ℤ) (f s : ℤ) (S : ℤ → Type 0) → IsAlone W (p ∷ A) (q ∷ B) f s joined S → int_max p.0 f ≡ int_max q.0 f → from_bool joined ≡ 0
joined_is_filled false W A B p q f s S u e = refl
joined_is_filled true W A B p q f s S u e = absurd (⊎_elim
    (λ (c, free). let low = covered_from (int_max p.0 f, p.1) A f u.first c in let o = u.second.0 in free (inl (omega (arith, ints), omega (arith, ints, clamps))))
    (λ (c, free). let low = covered_from (int_max q.0 f, q.1) B f u.second c in let o = u.first.0 in free (inl (omega (arith, ints), omega (arith, ints, clamps))))
    u.meets.1)

some_laid : (joined : Bool) (W : List (ℤ × ℤ)) (s f : ℤ) (R : ℤ → Type 0) → MeetsAt joined W s f R → from_bool joined ≤ length W
some_laid false W s f R m = omega arith
some_laid true [] s f R m = absurd (let e = m.0 in (cc))
some_laid true (p ∷ W) s f R m = omega arith

pub some_are_laid : (A B : List (ℤ × ℤ)) (f s : ℤ) (joined : Bool) (S : ℤ → Type 0) (H : List (ℤ × ℤ) → Type 0) (told : ℕ) → (W : List (ℤ × ℤ)) × IsOneAlone A B f s joined S H told W → from_bool joined ≤ told
some_are_laid A B f s joined S H told (W, u) = let some = some_laid joined W s f (alone_from f A B) u.state.meets in let e = u.count in omega (arith, some, e)

-- ---- the place of the next run, beside those that are written

module _ (A B : List (ℤ × ℤ)) (f s : ℤ) (joined : Bool) (S : ℤ → Type 0) (H : List (ℤ × ℤ) → Type 0) (W : List (ℤ × ℤ)) (told k : ℕ) (u : IsOneAlone A B f s joined S H told W)
    (place : k ≡ told - from_bool joined) where
  abbrev out : List (ℤ × ℤ)
  out = W ++ (f, f) ∷ []

  kept : take (length W) out ≡ W
  kept = take-append_seam W ((f, f) ∷ [])

  state : IsAlone (take (length W) out) A B f s joined S
  state = subst (λ (V : List (ℤ × ℤ)). IsAlone V A B f s joined S) (sym kept) u.state

  long : length W + 1 ≡ length out
  long = length_more W (f, f) (length W) refl

  at : k ≡ length W - from_bool joined
  at = let e = u.count in omega (arith, e, place)

  fits : k < length out
  fits = let e = long in let h = at in omega (arith, e, h)

  -- what is written once a run is put at that place
  put_is : (r : ℤ × ℤ) → take (k + 1) (set out k r) ≡ take k W ++ r ∷ []
  put_is r = let h = at in
      take_more_set out k r fits ∙ ap (λ (L : List (ℤ × ℤ)). L ++ r ∷ []) (take-append-le k W ((f, f) ∷ []) (omega (arith, h)))

  -- the runs that are left in one of the two lists
  pub one_alone_rest : (p : ℤ × ℤ) (R more : List (ℤ × ℤ)) (start : ℤ) (H' : List (ℤ × ℤ) → Type 0) → R ≡ A ++ B → (A ≡ []) ⊎ (B ≡ []) → R ≡ p ∷ more → start ≡ cond joined s (int_max p.0 f) →
      H' ((take (length W - from_bool joined) W ++ (start, p.1) ∷ []) ++ more) → (V : List (ℤ × ℤ)) × IsHeld S H' V
  one_alone_rest p R more start H' e h l es x =
      let same : take (k + 1) (set out k (start, p.1)) ++ more ≡ (take (length W - from_bool joined) W ++ (start, p.1) ∷ []) ++ more =
      ap (λ (L : List (ℤ × ℤ)). L ++ more) (put_is (start, p.1) ∙ ap (λ (n : ℕ). take n W ++ (start, p.1) ∷ []) at) in (
        take (k + 1) (set out k (start, p.1)) ++ more,
        record {
          runs = all_alone out A B R more _ (length W) k p f s start joined S state e h l (let m = long in omega (arith, m)) at fits es refl;
          held = subst H' (sym same) x;
        },
      )

pub one_alone_ends : (A B R : List (ℤ × ℤ)) (f s : ℤ) (joined : Bool) (S : ℤ → Type 0) (H H' : List (ℤ × ℤ) → Type 0) (told : ℕ) → R ≡ A ++ B → (A ≡ []) ⊎ (B ≡ []) → R ≡ [] →
    ((L : List (ℤ × ℤ)) → H L → told ≡ length L → H' L) → (W : List (ℤ × ℤ)) × IsOneAlone A B f s joined S H told W → (W : List (ℤ × ℤ)) × IsHeld S H' W
one_alone_ends A B R f s joined S H H' told e h none cut (W, u) = (W, record { runs = ends_alone W A B R f s joined S e h none u.state; held = cut W u.held u.count })

-- ---- one step, in the numbers that the loop computes, where p and q are the first pairs

pub opens : (L M A B : List (ℤ × ℤ)) (f s : ℤ) (joined : Bool) (S : ℤ → Type 0) (H : List (ℤ × ℤ) → Type 0) (told : ℕ) → L ≡ A → M ≡ B →
    (W : List (ℤ × ℤ)) × IsOneAlone L M f s joined S H told W → (W : List (ℤ × ℤ)) × IsOneAlone A B f s joined S H told W
opens L M A B f s joined S H told e h (W, u) = (W, subst (λ (N : List (ℤ × ℤ)). IsOneAlone A N f s joined S H told W) h (subst (λ (N : List (ℤ × ℤ)). IsOneAlone N M f s joined S H told W) e u))

module _ (A B L M : List (ℤ × ℤ)) (i j k told : ℕ) (p q : ℤ × ℤ) (f s : ℤ) (joined : Bool) (S : ℤ → Type 0) (H : List (ℤ × ℤ) → Type 0) (W : List (ℤ × ℤ)) (u : IsOneAlone (p ∷ A) (q ∷ B) f s joined S H told W)
    (place : k ≡ told - from_bool joined) (dl : drop i L ≡ p ∷ A) (dm : drop j M ≡ q ∷ B) (da : drop (i + 1) L ≡ A) (db : drop (j + 1) M ≡ B)
    (x y next upper end start : ℤ) (ex : x ≡ int_max p.0 f) (ey : y ≡ int_max q.0 f) (en : next ≡ int_max x y)
    (test : Bool) (t : IsTrue test ↔ (x ≤ℤ y)) (eu : upper ≡ cond test p.1 q.1) (es : start ≡ cond joined s (int_min x y)) where
  abbrev Out : List (ℤ × ℤ)
  Out = out (p ∷ A) (q ∷ B) f s joined S H W told k u place

  none_joined : (filled : Bool) → (IsTrue filled ↔ (¬ (x ≡ y))) → filled ≡ false → from_bool joined ≡ 0
  none_joined true tf e = absurd (cc)
  none_joined false tf e = joined_is_filled joined W A B p q f s S u.state
      (by_lt_z x y (λ lt. absurd (untrue false refl tf (λ h. omega (arith, ints)))) (λ le. by_lt_z y x (λ lt. absurd (untrue false refl tf (λ h. omega (arith, ints)))) (λ ge. omega (arith, ints))))

  at_end : (filled : Bool) → (IsTrue filled ↔ (¬ (x ≡ y))) → filled ≡ false → k ≡ length W
  at_end filled tf e = let none = none_joined filled tf e in let c = u.count in omega (arith, place, none, c)

  written_is : (filled : Bool) → (IsTrue filled ↔ (¬ (x ≡ y))) → take (k + from_bool filled) (set Out k (start, end)) ≡ cond filled (take k W ++ (start, end) ∷ []) W
  written_is true tf = put_is (p ∷ A) (q ∷ B) f s joined S H W told k u place (start, end)
  written_is false tf =
      ap (λ (n : ℕ). take n (set Out k (start, end))) (omega arith) ∙ take-set Out k (start, end) ∙ ap (λ (n : ℕ). take n Out) (at_end false tf refl) ∙
      kept (p ∷ A) (q ∷ B) f s joined S H W told k u place

  count_is : (filled : Bool) → (IsTrue filled ↔ (¬ (x ≡ y))) → k + from_bool filled ≡ length (cond filled (take k W ++ (start, end) ∷ []) W)
  count_is true tf = let h = at (p ∷ A) (q ∷ B) f s joined S H W told k u place in
      length_more (take k W) (start, end) k (sym (length-take-le k W (omega (arith, h))))
  count_is false tf = let h = at_end false tf refl in omega (arith, h)

  pub one_alone_next : (H' : List (ℤ × ℤ) → Type 0) (filled : Bool) → (IsTrue filled ↔ (¬ (x ≡ y))) → end ≡ int_min upper (next -ℤ pos (from_bool filled)) → PutsAt k filled (start, end) H H' →
      (g : ℤ) (eq : Bool) → (IsTrue eq ↔ (next ≡ g)) → (ends other left : Bool) (v w : ℤ) → v ≡ p.1 → w ≡ q.1 → (IsTrue ends ↔ (v ≤ℤ w)) → (IsTrue other ↔ (w ≤ℤ v)) → (IsTrue left ↔ (¬ (v ≡ w))) →
      g ≡ int_min v w +ℤ pos (from_bool left) → (V : List (ℤ × ℤ)) × IsOneAlone (drop (i + from_bool ends) L) (drop (j + from_bool other) M) g start (left && eq) S H' (k + from_bool filled) V
  one_alone_next H' filled tf ee puts g eq te ends other left v w ev ew ta tb tl eg =
      let same = written_is filled tf in
      let here = at (p ∷ A) (q ∷ B) f s joined S H W told k u place in
      let one = one_at_most joined in (
        take (k + from_bool filled) (set Out k (start, end)),
        record {
          state = alone_next Out A B (length W) k p q f s joined S (state (p ∷ A) (q ∷ B) f s joined S H W told k u place)
              (let m = long (p ∷ A) (q ∷ B) f s joined S H W told k u place in omega (arith, m)) here
              (fits (p ∷ A) (q ∷ B) f s joined S H W told k u place) x y next upper end start ex ey en test t eu es L M i j dl dm da db filled tf ee g eq te
              ends other left v w ev ew ta tb tl eg;
          count = count_is filled tf ∙ ap (λ (V : List (ℤ × ℤ)). length V) (sym same);
          held = subst H' (sym same) (puts W u.held (omega (arith, here)) (omega (arith, here, one)) (at_end filled tf));
        },
      )

pub one_alone_at_most : {X : Type 0} (pair : X → ℤ × ℤ) (a b : List X) (L : List (ℤ × ℤ)) → IsRunsOf L (SymmetricDifference (Covers (map pair a)) (Covers (map pair b))) → length L ≤ length a + length b
one_alone_at_most pair a b L r =
    let few = length_of_one_alone (map pair a) (map pair b) L r in
    let first = length-map a pair in let second = length-map b pair in omega (arith, few, first, second)
