-- One of the longest runs of a page: among the runs so far, and after an edit.
use Rattle.std.proofs.Common.{◌≡◌, ◌⊎◌, ⊎_elim, inl, inr, ℕ, ◌+◌, ◌<◌, ◌≤◌, ℤ, Bool, true, false, cond, List, [], ◌∷◌, ◌++◌, length, get_or, take, take_all, Some, None, refl, sym, ap, subst, ◌∙◌, arith}
use Rattle.std.specs.Prelude.{◌≤ℤ◌, ◌<ℤ◌, IfSome, Option, MatchOption}
use Rattle.std.proofs.lemmas.Int.{ints, by_lt_z}
use Rattle.ivl_laws.specs.Bounds.{width_of}
use Rattle.ivl_laws.specs.Sets.{IsBetween, IsCrossed, IsSubset, Only, SameMembers, Union, Without}
use Rattle.ivl_laws.specs.Runs.{Covers, IsMaximal, IsRunsOf}
use Rattle.ivl_laws.proofs.Intervals.{width_of-crossed, width_of-filled}
use Rattle.ivl_laws.proofs.Merging.{covers-append_left, covers-append_right}
use Rattle.ivl_places.specs.FirstFit.{FitsAt}
use Rattle.ivl_places.specs.Neighbours.{IsRunWith}
use Rattle.ivl_places.proofs.Ranks.{more_is}
use Rattle.ivl_paged.specs.Pages.{IsLongestPart}
use Rattle.ivl_paged.proofs.Fitting.{grown_by_run, longest_next, longest_of_none}

-- a part of a set than which none is longer
pub longest_part : (p : ℤ × ℤ) (S : ℤ → Type 0) → IsSubset (IsBetween p) S → ((m : ℕ) (v : ℤ) → FitsAt m S v → m ≤ width_of p) → IsLongestPart p S
longest_part p S inside most = record { inside = inside; longest = record { fits = (p.0, fits); most = most } }
  where
    fits : FitsAt (width_of p) S p.0
    fits z b =
        let low = b.0 in
        let high = b.1 in
        by_lt_z p.1 p.0
        (λ crossed. let none = width_of-crossed p crossed in absurd (omega (arith, ints, none, low, high)))
        (λ filled. let width = width_of-filled p filled in inside z (low, omega (arith, ints, width, high)))

-- ---- among the runs so far

pub no_part : (L : List (ℤ × ℤ)) (p : ℤ × ℤ) → IsCrossed p → IsLongestPart p (Covers (take 0 L))
no_part L p crossed = record {
  inside = λ z b. let low = b.0 in let high = b.1 in absurd (omega (arith, ints, crossed, low, high));
  longest = longest_of_none L (width_of p) (width_of-crossed p crossed);
}

-- x is the longest so far and d the next run; the test t decides
pub next_part : (L : List (ℤ × ℤ)) (i : ℕ) (d x r : ℤ × ℤ) (t : Bool) → IsMaximal L → i < length L → d ≡ get_or L i d → IsLongestPart x (Covers (take i L)) →
    (t ≡ true → width_of x ≤ width_of d) → (t ≡ false → width_of d < width_of x) → r ≡ cond t d x → IsLongestPart r (Covers (take (i + 1) L))
next_part L i d x r t m h is so_far up down e = record {
  inside = λ z b. subst (λ (M : List (ℤ × ℤ)). Covers M z) (sym (more_is L i d m h is)) (either t e z b);
  longest = longest_next width_of L i d x d r t m h is so_far.longest refl up down e;
}
  where
    either : (t : Bool) → r ≡ cond t d x → (z : ℤ) → IsBetween r z → Covers (take i L ++ d ∷ []) z
    either true e z b = covers-append_right (take i L) (d ∷ []) z (inl (subst (λ (p : ℤ × ℤ). IsBetween p z) e b))
    either false e z b = covers-append_left (take i L) (d ∷ []) z (so_far.inside z (subst (λ (p : ℤ × ℤ). IsBetween p z) e b))

-- the size of the longest is chosen by the same test
pub size_of_next : {A : Type 0} (size : A → ℕ) (y m n : A) (d x r : ℤ × ℤ) (t : Bool) → size y ≡ width_of d → size m ≡ width_of x → n ≡ cond t y m → r ≡ cond t d x → size n ≡ width_of r
size_of_next size y m n d x r true here before e f = ap size e ∙ here ∙ sym (ap width_of f)
size_of_next size y m n d x r false here before e f = ap size e ∙ before ∙ sym (ap width_of f)

pub part_of_all : (L : List (ℤ × ℤ)) (i : ℕ) (p : ℤ × ℤ) → length L ≤ i → IsLongestPart p (Covers (take i L)) → IsLongestPart p (Covers L)
part_of_all L i p h = subst (λ (M : List (ℤ × ℤ)). IsLongestPart p (Covers M)) (take_all i L h)

-- ---- after an edit

-- p was added to S, which made T, and a search at v, its first number, found the run that holds it there
pub grown_part : (o : Option (ℤ × ℤ)) (x r : ℤ × ℤ) (S T : ℤ → Type 0) (p : ℤ × ℤ) (v : ℤ) → v ≡ p.0 → IsLongestPart x S → SameMembers T (Union S (IsBetween p)) → p.0 ≤ℤ p.1 → MatchOption o (¬ (T v)) (IsRunWith v T) →
    MatchOption o (r ≡ x) (λ run. (width_of x ≤ width_of r) × (width_of run ≤ width_of r) × ((r ≡ x) ⊎ (r ≡ run))) → IsLongestPart r T
grown_part None x r S T p v e old same filled free h = absurd (free (subst T (sym e) ((same p.0).1 (inr (omega (arith, ints), filled)))))
grown_part (Some run) x r S T p v e old same filled found (more, wide, which) = record {
  inside = ⊎_elim
      (λ q z b. (same z).1 (inl (old.inside z (subst (λ (k : ℤ × ℤ). IsBetween k z) q b))))
      (λ q z b. found.inside z (subst (λ (k : ℤ × ℤ). IsBetween k z) q b))
      which;
  longest = grown_by_run (Some run) (width_of x) (width_of r) S T p v e old.longest same filled found
      (more, wide, ⊎_elim (λ q. inl (ap width_of q)) (λ q. inr (ap width_of q)) which);
}

-- Q was removed from S, which left T: so was P, which has the same members
pub without_same : (S T P Q : ℤ → Type 0) → SameMembers P Q → SameMembers T (Without S Q) → SameMembers T (Without S P)
without_same S T P Q same made z = (
  (λ t. let (a, n) = (made z).0 t in (a, λ b. n ((same z).0 b))),
  (λ (a, n). (made z).1 (a, λ e. n ((same z).1 e))),
)

-- the number of x was taken out of S, which left L: so was p, which has that number alone
pub without_popped : {X : Type 0} (value : X → ℤ) (S : ℤ → Type 0) (L : List (ℤ × ℤ)) (o : Option X) (x : X) (p : ℤ × ℤ) → o ≡ Some x → IfSome o (λ y. IsRunsOf L (Without S (Only (value y)))) →
    SameMembers (IsBetween p) (Only (value x)) → SameMembers (Covers L) (Without S (IsBetween p))
without_popped value S L o x p e left alone =
    let made = subst (λ r. IfSome r (λ y. IsRunsOf L (Without S (Only (value y))))) e left in
    without_same S (Covers L) (IsBetween p) (Only (value x)) alone made.members

-- p was removed from S, which left T, and does not meet the longest run x
pub kept_part : (x p : ℤ × ℤ) (S T : ℤ → Type 0) → IsLongestPart x S → SameMembers T (Without S (IsBetween p)) → (x.1 <ℤ p.0) ⊎ (p.1 <ℤ x.0) → IsSubset (IsBetween x) T
kept_part x p S T old same apart z b = (same z).1 (
  old.inside z b,
  λ c. let low = b.0 in
      let high = b.1 in
      let from = c.0 in
      let to = c.1 in
      ⊎_elim (λ lt. omega (arith, ints, lt, high, from)) (λ lt. omega (arith, ints, lt, low, to)) apart,
)

pub none_longer : (x p : ℤ × ℤ) (S T : ℤ → Type 0) → IsLongestPart x S → SameMembers T (Without S (IsBetween p)) → (m : ℕ) (v : ℤ) → FitsAt m T v → m ≤ width_of x
none_longer x p S T old same m v f = old.longest.most m v (λ z b. ((same z).0 (f z b)).0)
