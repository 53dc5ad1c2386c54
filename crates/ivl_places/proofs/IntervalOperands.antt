-- Sets beside an interval.
use Rattle.std.proofs.Common.{◌≡◌, ◌↔◌, ⊎_elim, inl, ℕ, ℤ, pos, ◌+ℤ◌, ◌≤ℤ◌, Bool, IsTrue, List, [], ◌∷◌, ◌++◌, arith, sym, subst, ◌+◌, ◌≤◌, length}
use Rattle.std.specs.Prelude.{◌<ℤ◌, Result, IfOk}
use Rattle.std.proofs.lemmas.Int.{ints, by_lt_z}
use Rattle.std.proofs.lemmas.Result.{IfOk-weaker}
use Rattle.ivl_laws.specs.Sets.{AtLeast, HasSome, Intersection, IsBetween, IsInRange, IsSubset, Without}
use Rattle.ivl_laws.specs.Runs.{Covers, IsRunListIn, IsRunsOf}
use Rattle.ivl_laws.specs.Counts.{IsCountOf}
use Rattle.ivl_laws.proofs.Counts.{IsCountOf-same}
use Rattle.ivl_laws.proofs.Ranges.{IsRunsOf-one}
use Rattle.ivl_laws.proofs.Runs.{pair_same}
use Rattle.ivl_laws.proofs.SetLaws.{IsRunsOf-same}
use Rattle.ivl_walks.proofs.RunBounds.{length_of_without}
use Rattle.ivl_places.specs.Neighbours.{IsLeast, IsRunWith}

-- ---- the set of an interval

pub of_some : {E : Type 0} (r : Result (List (ℤ × ℤ)) E) (p : ℤ × ℤ) (a b : ℤ) → p.0 ≤ℤ p.1 → a ≡ p.0 → b ≡ p.1 → IfOk r (λ L. L ≡ (a, b) ∷ []) → IfOk r (λ L. IsRunsOf L (IsBetween p))
of_some r p a b o e f h = IfOk-weaker r _ _ (λ L i.
    subst (λ (M : List (ℤ × ℤ)). IsRunsOf M (IsBetween p)) (sym i) (subst (λ (q : ℤ × ℤ). IsRunsOf (q ∷ []) (IsBetween p)) (sym (pair_same (a, b) p e f)) (IsRunsOf-one p o))) h

-- the list L holds the pair p, put into the empty list I
pub holds_one : (whole q p : ℤ × ℤ) (I L : List (ℤ × ℤ)) (n : ℕ) → p ≡ q → I ≡ [] → L ≡ I ++ p ∷ [] → q.0 ≤ℤ q.1 → IsInRange whole q → IsCountOf n (IsBetween p) → IsRunListIn whole L × IsCountOf n (Covers L)
holds_one whole q p I L n e f h o b c =
    let one : L ≡ q ∷ [] = cc in
    subst (λ (M : List (ℤ × ℤ)). IsRunListIn whole M × IsCountOf n (Covers M)) (sym one) (
      record { maximal = (o, tt, tt); within = λ z s. ⊎_elim (λ (i : IsBetween q z). let low = i.0 in let high = i.1 in (omega (arith, ints), omega (arith, ints))) (λ s. absurd s) s },
      IsCountOf-same (IsBetween q) (Covers (q ∷ [])) n (λ z. ((λ i. inl i), ⊎_elim (λ i. i) (λ s. absurd s))) (subst (λ (r : ℤ × ℤ). IsCountOf n (IsBetween r)) e c),
    )

-- ---- how many runs are left without an interval

pub length_but_interval : (L R : List (ℤ × ℤ)) (p : ℤ × ℤ) → IsRunsOf R (Without (Covers L) (IsBetween p)) → length R ≤ length L + 1
length_but_interval L R p r = length_of_without L (p ∷ []) R (IsRunsOf-same (Without (Covers L) (IsBetween p)) (Without (Covers L) (Covers (p ∷ []))) R
    (λ z. ((λ (c, n). (c, λ d. n (⊎_elim (λ b. b) (λ a. absurd a) d))), (λ (c, n). (c, λ b. n (inl b))))) r)

-- ---- whether an interval is included, and whether it overlaps

pub included_in_run : (S : ℤ → Type 0) (p run : ℤ × ℤ) (a b c : ℤ) (t : Bool) → p.0 ≤ℤ p.1 → IsRunWith a S run → a ≡ p.0 → b ≡ p.1 → c ≡ run.1 → (IsTrue t ↔ (b ≤ℤ c)) → IsTrue t ↔ IsSubset (IsBetween p) S
included_in_run S p run a b c t o w ea eb ec k =
    let low = w.holds.0 in
    let high = w.holds.1 in (
      (λ u z (i : IsBetween p z). let le = k.0 u in let from = i.0 in let to = i.1 in w.inside z (omega (arith, ints), omega (arith, ints))),
      (λ s. k.1 (by_lt_z c b (λ (lt : c <ℤ b). absurd (w.free_above (s (run.1 +ℤ pos 1) (omega (arith, ints), omega (arith, ints))))) (λ le. le))),
    )

pub overlaps_by_least : (S : ℤ → Type 0) (p : ℤ × ℤ) (a b x : ℤ) (t : Bool) → IsLeast x (AtLeast a S) → a ≡ p.0 → b ≡ p.1 → (IsTrue t ↔ (x ≤ℤ b)) → IsTrue t ↔ HasSome (Intersection S (IsBetween p))
overlaps_by_least S p a b x t l ea eb k =
    let from = l.0.1 in (
      (λ u. let le = k.0 u in (x, (l.0.0, (omega (arith, ints), omega (arith, ints))))),
      (λ (z, (s, i)). let low = i.0 in let high = i.1 in let least = l.1 z (s, omega (arith, ints)) in k.1 (omega (arith, ints))),
    )
