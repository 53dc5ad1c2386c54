-- The longest run of all pages.
use Rattle.std.proofs.Common.{◌≡◌, ◌⊎◌, ⊎_elim, ℕ, ◌+◌, ◌<◌, ℤ, pos, ◌+ℤ◌, ◌-ℤ◌, List, [], length, Some, None, sym, subst, arith}
use Rattle.std.specs.Prelude.{All, IfSome, MatchOption, Option}
use Rattle.std.proofs.lemmas.Int.{ints, by_lt_z}
use Rattle.ivl_laws.specs.Bounds.{width_of}
use Rattle.ivl_laws.specs.Families.{set_at}
use Rattle.ivl_laws.specs.Runs.{Covers, IsMaximal}
use Rattle.ivl_laws.proofs.Intervals.{width_of-filled}
use Rattle.ivl_laws.proofs.Runs.{≤ℤ_antisymm}
use Rattle.ivl_places.specs.FirstFit.{FitsAt, IsFirstFit}
use Rattle.ivl_places.specs.Neighbours.{IsRunWith}
use Rattle.ivl_places.proofs.FirstFit.{IsFitOf}
use Rattle.ivl_paged.specs.Longests.{HasLong, NoneLonger}
use Rattle.ivl_paged.specs.Pages.{flattened}
use Rattle.ivl_paged.proofs.Fitting.{fit_of_none}
use Rattle.ivl_paged.proofs.Paging.{covers_page, order_of}

-- a member is a row of one number
member_fits : (S : ℤ → Type 0) (v : ℤ) → S v → FitsAt 1 S v
member_fits S v s z b = subst S (≤ℤ_antisymm v z b.0 (omega (arith, ints, b.1))) s

pub longest_has_some : (P : List (List (ℤ × ℤ))) (n : ℕ) (v : ℤ) → All (λ L. NoneLonger n (Covers L)) P → 0 < length P → set_at P 0 v → 0 < n
longest_has_some P n v all some here = let le = all 0 [] some 1 v (member_fits (set_at P 0) v here) in omega (arith, le)

none_longer_at_all : (P : List (List (ℤ × ℤ))) (n : ℕ) → IsMaximal (flattened P) → All (λ L. NoneLonger n (Covers L)) P → NoneLonger n (Covers (flattened P))
none_longer_at_all P n m all k v f = ⊎_elim
    (λ lt. absurd (fit_of_none k P 0 (omega (arith, lt)) m (λ j a less l. let le = all j [] less k l.0 l.1 in absurd (omega (arith, le, lt))) v f))
    (λ le. le)
    (order_of n k)

module _ (n : ℕ) (S : ℤ → Type 0) (p : ℤ × ℤ) (some : 0 < n) (most : NoneLonger n S) (first : IsFirstFit n S p) where
  longest_is_run : IsRunWith p.0 S p
  longest_is_run =
      let count = first.count in
      record {
        holds = (omega (arith, ints), omega (arith, ints, count, some));
        inside = first.members;
        free_below = λ s. let le = most (n + 1) (p.0 -ℤ pos 1) (λ z b. by_lt_z z p.0
            (λ lt. subst S (≤ℤ_antisymm (p.0 -ℤ pos 1) z b.0 (omega (arith, ints, lt))) s)
            (λ up. first.members z (up, omega (arith, ints, b.1, count)))) in omega (arith, le);
        free_above = λ s. let le = most (n + 1) p.0 (λ z b. by_lt_z p.1 z
            (λ lt. subst S (≤ℤ_antisymm (p.1 +ℤ pos 1) z (omega (arith, ints, lt)) (omega (arith, ints, b.1, count))) s)
            (λ up. first.members z (b.0, up))) in omega (arith, le);
      }

  longest_width : width_of p ≡ n
  longest_width =
      let count = first.count in
      let width = width_of-filled p (omega (arith, ints, count, some)) in
      omega (arith, ints, count, width)

-- N are the runs of the pages, and o is where so many numbers of them fit first
module _ (P : List (List (ℤ × ℤ))) (N : List (ℤ × ℤ)) (n : ℕ) (view : flattened P ≡ N) (m : IsMaximal (flattened P)) (some : 0 < n) (all : All (λ L. NoneLonger n (Covers L)) P) (has : (n ≡ 0) ⊎ ((k : ℕ) × HasLong n P k)) where
  most_of_all : NoneLonger n (Covers N)
  most_of_all = subst (λ (L : List (ℤ × ℤ)). NoneLonger n (Covers L)) view (none_longer_at_all P n m all)

  fits_somewhere : (v : ℤ) × FitsAt n (Covers N) v
  fits_somewhere = ⊎_elim
      (λ e. absurd (omega (arith, e, some)))
      (λ h. (h.1.0, λ z b. subst (λ (L : List (ℤ × ℤ)). Covers L z) view (covers_page P h.0 z (h.1.1 z b))))
      has

  pub run_seen : (o : Option (ℤ × ℤ)) → IsFitOf n (Covers N) o → MatchOption o (N ≡ []) (λ run. IsRunWith run.0 (Covers N) run)
  run_seen None f = absurd (f fits_somewhere.0 fits_somewhere.1)
  run_seen (Some p) f = longest_is_run n (Covers N) p some most_of_all f

  pub longest_seen : (o : Option (ℤ × ℤ)) → IsFitOf n (Covers N) o → IfSome o (λ run. NoneLonger (width_of run) (Covers N))
  longest_seen None f = absurd (f fits_somewhere.0 fits_somewhere.1)
  longest_seen (Some p) f = subst (λ (k : ℕ). NoneLonger k (Covers N)) (sym (longest_width n (Covers N) p some most_of_all f)) most_of_all

  pub lowest_seen : (o : Option (ℤ × ℤ)) → IsFitOf n (Covers N) o → IfSome o (λ run. IsFirstFit (width_of run) (Covers N) run)
  lowest_seen None f = absurd (f fits_somewhere.0 fits_somewhere.1)
  lowest_seen (Some p) f = subst (λ (k : ℕ). IsFirstFit k (Covers N) p) (sym (longest_width n (Covers N) p some most_of_all f)) f
