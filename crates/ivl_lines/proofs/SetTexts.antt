-- The text of a set, as `Display` writes it, in the words of `Sets`.
use Rattle.std.proofs.Common.{◌≡◌, ℕ, ℤ, ◌≤ℤ◌, List, [], ◌∷◌, Option, Some, inl, inr, refl, append_assoc}
use Rattle.std.specs.Prelude.{flat_map}
use Rattle.std.specs.Fmt.{signed_decimal}
use Rattle.ivl_laws.specs.Runs.{Covers, IsMaximal}
use Rattle.ivl_laws.proofs.Orders.{int_lt_false}
use Rattle.ivl_laws.proofs.Runs.{lower_end, upper_end}
use Rattle.ivl_interval.specs.Text.{interval_text}
use Rattle.intervallum.specs.Text.{runs_text, set_text}
use Rattle.ivl_lines.specs.Sets.{run_text, pairs_text}

-- a run, by the texts of its bounds
abbrev pub shown_run : (ℤ → List ℕ) → ℤ × ℤ → Option (List ℕ)
shown_run number p = interval_text p (Some (number p.0)) (Some (number p.1))

-- where the text of each member is its decimals
module _ (number : ℤ → List ℕ) where
  run_is_shown : (p : ℤ × ℤ) (L : List (ℤ × ℤ)) → p.0 ≤ℤ p.1 → ((z : ℤ) → Covers (p ∷ L) z → number z ≡ signed_decimal z) → shown_run number p ≡ Some (run_text p)
  run_is_shown p L filled each = rw (int_lt_false p.1 p.0 filled, each p.0 (inl (lower_end p filled)), each p.1 (inl (upper_end p filled)), append_assoc, append_assoc) refl

  runs_are_shown : (L : List (ℤ × ℤ)) → IsMaximal L → ((z : ℤ) → Covers L z → number z ≡ signed_decimal z) → runs_text (shown_run number) L ≡ Some (flat_map run_text L)
  runs_are_shown [] maximal each = refl
  runs_are_shown (p ∷ L) maximal each = rw (run_is_shown p L maximal.0 each, runs_are_shown L maximal.2 (λ z held. each z (inr held))) refl

  pub set_is_shown : (L : List (ℤ × ℤ)) → IsMaximal L → ((z : ℤ) → Covers L z → number z ≡ signed_decimal z) → set_text (shown_run number) L ≡ Some (pairs_text L)
  set_is_shown [] maximal each = refl
  set_is_shown (p ∷ []) maximal each = run_is_shown p [] maximal.0 each
  set_is_shown (p ∷ q ∷ L) maximal each =
      let rest = λ (z : ℤ) (held : Covers (q ∷ L) z). each z (inr held) in
      rw (run_is_shown p (q ∷ L) maximal.0 each, run_is_shown q L maximal.2.0 rest, runs_are_shown L maximal.2.2 (λ z held. rest z (inr held))) refl
