-- A question is a step, and so is its refusal where a register is missing.
use Rattle.std.proofs.Common.{◌≡◌, ◌↔◌, inl, inr, ℕ, ◌<◌, ℤ, Bool, false, Option, IsTrue, List, [], ◌∷◌, length, slice_index_or, refl, sym, ap, subst}
use Rattle.std.proofs.lemmas.List.Elements.{All-nil, All-cons, All-head, All-tail}
use Rattle.std.proofs.Math.Bool.{true≢false}
use Rattle.std.specs.Prelude.{All, MatchOption, None, Some, option_map}
use Rattle.ivl_laws.specs.Counts.{IsCountOf}
use Rattle.ivl_laws.specs.Runs.{Covers, IsMaximal}
use Rattle.ivl_laws.specs.Sets.{HasNone, HasSome, Intersection, IsSubset, SameMembers}
use Rattle.ivl_laws.proofs.SetLaws.{same_members_refl}
use Rattle.ivl_calculator.specs.declared.reply.Refusal.TheVariants.{Register}
use Rattle.ivl_calculator.specs.Actions.{Question, size, count, low, high, same, subset, meets, ask, Answer, flag, sized, counted, value, refused}
use Rattle.ivl_calculator.specs.Step.{MayStep, IsAnswerTo, IsEndOf, IsGreatestOf, IsLeastOf, subjects_of}
use Rattle.ivl_calculator.proofs.Registers.{two_named}

module _ (whole : ℤ × ℤ) (s : List (List (ℤ × ℤ))) (question : Question) (a : ℕ) (one : subjects_of question ≡ a ∷ []) where
  pub asks_of : (answer : Answer) → a < length s → IsAnswerTo s question answer → MayStep whole s (ask question) answer s
  asks_of answer named holds =
      inr (inl ((subst (All (λ r. r < length s)) (sym one) (All-cons (λ r. r < length s) a [] named (All-nil (λ r. r < length s))), tt, tt), (holds, refl)))

  pub asks_none : (IsTrue false ↔ (a < length s)) → MayStep whole s (ask question) (refused Register) s
  asks_none known = inl (Register, refl, (λ all. true≢false (sym (known.1 (All-head (λ r. r < length s) a [] (subst (All (λ r. r < length s)) one all))))), refl)

module _ (whole : ℤ × ℤ) (s : List (List (ℤ × ℤ))) (question : Question) (a b : ℕ) (two : subjects_of question ≡ a ∷ b ∷ []) where
  named : All (λ r. r < length s) (subjects_of question) → (a < length s) × (b < length s)
  named all =
      let h = subst (All (λ r. r < length s)) two all in
      (All-head (λ r. r < length s) a (b ∷ []) h, All-head (λ r. r < length s) b [] (All-tail (λ r. r < length s) a (b ∷ []) h))

  pub asks_left_none : (IsTrue false ↔ (a < length s)) → MayStep whole s (ask question) (refused Register) s
  asks_left_none known = inl (Register, refl, (λ all. true≢false (sym (known.1 (named all).0))), refl)

  pub asks_right_none : (IsTrue false ↔ (b < length s)) → MayStep whole s (ask question) (refused Register) s
  asks_right_none known = inl (Register, refl, (λ all. true≢false (sym (known.1 (named all).1))), refl)

pub size_seen : (s : List (List (ℤ × ℤ))) (a n : ℕ) (L : List (ℤ × ℤ)) → L ≡ slice_index_or s a [] → IsCountOf n (Covers L) → IsAnswerTo s (size a) (sized n)
size_seen s a n L seen h = (n, refl, subst (λ (M : List (ℤ × ℤ)). IsCountOf n (Covers M)) seen h)

-- the end of a set, by the bound that is it
end_of : {B : Type 0} (number : B → ℤ) (P : (ℤ → Type 0) → ℤ → Type 0) (S : ℤ → Type 0) (o : Option B) → MatchOption o (HasNone S) (λ x. P S (number x)) → IsEndOf P S (option_map number o)
end_of number P S None h = h
end_of number P S (Some x) h = h

module _ {B : Type 0} (number : B → ℤ) (s : List (List (ℤ × ℤ))) (a : ℕ) (o : Option B) (L : List (ℤ × ℤ)) (seen : L ≡ slice_index_or s a []) where
  pub low_seen : MatchOption o (HasNone (Covers L)) (λ x. IsLeastOf (Covers L) (number x)) → IsAnswerTo s (low a) (value (option_map number o))
  low_seen h = (option_map number o, refl, subst (λ (M : List (ℤ × ℤ)). IsEndOf IsLeastOf (Covers M) (option_map number o)) seen (end_of number IsLeastOf (Covers L) o h))

  pub high_seen : MatchOption o (HasNone (Covers L)) (λ x. IsGreatestOf (Covers L) (number x)) → IsAnswerTo s (high a) (value (option_map number o))
  high_seen h = (option_map number o, refl, subst (λ (M : List (ℤ × ℤ)). IsEndOf IsGreatestOf (Covers M) (option_map number o)) seen (end_of number IsGreatestOf (Covers L) o h))

pub count_seen : (s : List (List (ℤ × ℤ))) (a n : ℕ) (L : List (ℤ × ℤ)) → L ≡ slice_index_or s a [] → n ≡ length L → IsMaximal L → IsAnswerTo s (count a) (counted n)
count_seen s a n L seen e maximal =
    (L, ap counted e, record { maximal = maximal; members = subst (λ (M : List (ℤ × ℤ)). SameMembers (Covers L) (Covers M)) seen (same_members_refl (Covers L)) })

module _ (whole : ℤ × ℤ) (s : List (List (ℤ × ℤ))) (a b : ℕ) (L M : List (ℤ × ℤ)) (r : Bool) (a_named : a < length s) (b_named : b < length s)
    (a_seen : L ≡ slice_index_or s a []) (b_seen : M ≡ slice_index_or s b []) where
  pub asks_same : (IsTrue r ↔ SameMembers (Covers L) (Covers M)) → MayStep whole s (ask (same a b)) (flag r) s
  asks_same h = inr (inl ((two_named (length s) a b a_named b_named, tt, tt), ((r, refl, rw (← a_seen, ← b_seen) h), refl)))

  pub asks_subset : (IsTrue r ↔ IsSubset (Covers L) (Covers M)) → MayStep whole s (ask (subset a b)) (flag r) s
  asks_subset h = inr (inl ((two_named (length s) a b a_named b_named, tt, tt), ((r, refl, rw (← a_seen, ← b_seen) h), refl)))

  pub asks_meets : (IsTrue r ↔ HasSome (Intersection (Covers L) (Covers M))) → MayStep whole s (ask (meets a b)) (flag r) s
  asks_meets h = inr (inl ((two_named (length s) a b a_named b_named, tt, tt), ((r, refl, rw (← a_seen, ← b_seen) h), refl)))
