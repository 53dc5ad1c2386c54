-- What a set has in an interval, made run by run.
use Rattle.std.proofs.Common.{◌≡◌, ◌↔◌, ℕ, ◌+◌, ◌<◌, inl, inr, sym, subst, arith, ◌∙◌, List, [], ◌∷◌, ◌++◌, take, length, get_or, Bool, false}
use Rattle.std.proofs.lemmas.Bool.{false≢true}
use Rattle.std.proofs.lemmas.Int.{ints}
use Rattle.std.specs.Prelude.{All, IsTrue, Some, ℤ, pos, ◌+ℤ◌, ◌≤ℤ◌, ◌<ℤ◌}
use Rattle.ivl_laws.specs.Sets.{HasSome, Intersection, IsBetween, IsSubset, SameMembers}
use Rattle.ivl_laws.specs.Runs.{Covers, IsMaximal, IsRunListIn, IsRunsOf}
use Rattle.ivl_laws.proofs.Merging.{covers-append, covers-append_left, covers-append_right}
use Rattle.ivl_laws.proofs.Runs.{lower_end}
use Rattle.ivl_laws.proofs.SetLaws.{IsRunsOf-same}
use Rattle.ivl_places.specs.Windows.{OfRunsThatMeet}
use Rattle.ivl_places.proofs.Splicing.{taken_below}
use Rattle.ivl_places.proofs.WholeRuns.{met_have_all}
use Rattle.ivl_store.specs.NarrowedSets.{IsLeftOf}
use Rattle.ivl_store.proofs.Lists.{covers_next}
use Rattle.ivl_store.proofs.NarrowedSets.{keeps_some_within}

-- ---- one run q more: what the run p has in the interval W

module _ (L M : List (ℤ × ℤ)) (i : ℕ) (p q W : ℤ × ℤ) (lt : i < length L) (is : p ≡ get_or L i p) (same : SameMembers (IsBetween q) (Intersection (IsBetween p) (IsBetween W))) where
  pub clipped_filled : All (λ run. HasSome (Intersection (IsBetween run) (IsBetween W))) L → q.0 ≤ℤ q.1
  clipped_filled met =
      let (z, m) = subst (λ (r : ℤ × ℤ). HasSome (Intersection (IsBetween r) (IsBetween W))) (sym is) (met i p lt) in
      let b = (same z).1 m in let low = b.0 in let high = b.1 in omega (arith, ints)

  module _ (so_far : SameMembers (Covers M) (Intersection (Covers (take i L)) (IsBetween W))) where
    pub clipped_above : IsMaximal L → q.0 ≤ℤ q.1 → (v : ℤ) → Covers M v → (v +ℤ pos 1) <ℤ q.0
    clipped_above m filled v c =
        let far = subst (λ (r : ℤ × ℤ). (v +ℤ pos 2) ≤ℤ r.0) (sym is) (taken_below L i p v m lt ((so_far v).0 c).0) in
        let from = ((same q.0).0 (lower_end q filled)).0.0 in omega (arith, ints)

    pub clipped_more : (N : List (ℤ × ℤ)) → N ≡ M ++ q ∷ [] → SameMembers (Covers N) (Intersection (Covers (take (i + 1) L)) (IsBetween W))
    clipped_more N e z =
        let n = covers_next L i p lt is z in
        rw e (
          (λ h. elim (covers-append M (q ∷ []) z h) [
            | inl k ↦ (let u = (so_far z).0 k in (n.1 (inl u.0), u.1))
            | inr k ↦ elim k [ inl b ↦ (let u = (same z).0 b in (n.1 (inr u.0), u.1)) | inr none ↦ absurd none ]
          ]),
          (λ h. elim (n.0 h.0) [
            | inl k ↦ covers-append_left M (q ∷ []) z ((so_far z).1 (k, h.1))
            | inr b ↦ covers-append_right M (q ∷ []) z (inl ((same z).1 (b, h.1)))
          ]),
        )

-- ---- what is left, where not all members are kept

pub some_lost : (whole : ℤ × ℤ) (L left : List (ℤ × ℤ)) (S : ℤ → Type 0) (t : Bool) → IsRunListIn whole L → t ≡ false → (IsTrue t ↔ IsSubset (Covers L) S)
    → IsRunsOf left (Intersection (Covers L) S) → IsLeftOf whole L S (Some left)
some_lost whole L left S t r lost all k =
    keeps_some_within whole L left S r k (λ agree. false≢true (sym lost ∙ all.1 (λ z m. ((k.members z).0 ((agree z).1 m)).1)))

-- what the runs that meet the interval have in it, all have
pub met_left : (L K left : List (ℤ × ℤ)) (W : ℤ → Type 0) → IsRunsOf K (OfRunsThatMeet W (Covers L)) → IsRunsOf left (Intersection (Covers K) W) → IsRunsOf left (Intersection (Covers L) W)
met_left L K left W met = IsRunsOf-same (Intersection (Covers K) W) (Intersection (Covers L) W) left (met_have_all W (Covers L) K met)
