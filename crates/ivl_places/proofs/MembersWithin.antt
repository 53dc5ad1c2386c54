-- The members of runs that meet a window: all of each run but the first and the last.
use Rattle.std.proofs.Common.{◌≡◌, ⊎_elim, inl, inr, ℤ, ◌≤ℤ◌, List, [], ◌∷◌, ◌++◌, All, length, ◌≤◌, append-nil, append_assoc, refl, sym, ap, subst, ◌∙◌, arith}
use Rattle.std.specs.Prelude.{◌<ℤ◌}
use Rattle.std.specs.List.{AllByRecursion}
use Rattle.std.proofs.lemmas.Int.{ints}
use Rattle.std.proofs.lemmas.List.Elements.{All-head, All-tail}
use Rattle.ivl_laws.specs.Sets.{HasSome, Intersection, IsBetween, IsCrossed, SameMembers}
use Rattle.ivl_laws.specs.Bounds.{width_of}
use Rattle.ivl_laws.specs.Runs.{Covers, IsMaximal, IsRunListIn, IsRunsOf, StartsAfter}
use Rattle.ivl_laws.specs.Counts.{IsIn}
use Rattle.ivl_laws.proofs.Intervals.{some_is_not_crossed}
use Rattle.ivl_laws.proofs.Merging.{last_open, covers-append, covers-append_left, covers-append_right}
use Rattle.ivl_laws.proofs.Runs.{covered_after}
use Rattle.ivl_places.specs.Members.{IsAscending, members_of, numbers_of}
use Rattle.ivl_places.specs.Windows.{OfRunsThatMeet}
use Rattle.ivl_places.proofs.Members.{all_left, ascending_members, in_members, members_of-push, numbers_of-crossed}
use Rattle.ivl_places.proofs.MemberCounts.{ascending_counted}
use Rattle.ivl_places.proofs.WholeRuns.{met_have_all}

-- the list M has, in order, what S has in W
pub record IsListWithin (S : ℤ → Type 0) (W : ℤ × ℤ) (M : List ℤ) : Type 0 where
  pub members : SameMembers (Intersection S (IsBetween W)) (IsIn M)
  pub ascending : IsAscending M

-- the runs N have what S has in W
of_runs : (S : ℤ → Type 0) (W : ℤ × ℤ) (N : List (ℤ × ℤ)) → IsRunsOf N (Intersection S (IsBetween W)) → IsListWithin S W (members_of N)
of_runs S W N r = record {
  members = λ z. ((λ s. (in_members N z).0 ((r.members z).1 s)), (λ i. (r.members z).0 ((in_members N z).1 i)));
  ascending = ascending_members N r.maximal;
}

-- the runs K are those of S that meet W
of_met : (S : ℤ → Type 0) (W : ℤ × ℤ) (K N : List (ℤ × ℤ)) (M : List ℤ) → IsRunsOf K (OfRunsThatMeet (IsBetween W) S) → IsRunsOf N (Intersection (Covers K) (IsBetween W)) → M ≡ members_of N → IsListWithin S W M
of_met S W K N M k n e = subst (IsListWithin S W) (sym e) (of_runs S W N (record {
  maximal = n.maximal;
  members = λ z. (
    (λ c. (met_have_all (IsBetween W) S K k z).0 ((n.members z).0 c)),
    (λ s. (n.members z).1 ((met_have_all (IsBetween W) S K k z).1 s)),
  );
}))

pub no_item : (K : List (ℤ × ℤ)) → length K ≡ 0 → K ≡ []
no_item [] e = refl
no_item (p ∷ K) e = absurd (omega arith)

pub of_none : (S : ℤ → Type 0) (W E E' : ℤ × ℤ) (K : List (ℤ × ℤ)) → IsRunsOf K (OfRunsThatMeet (IsBetween W) S) → length K ≡ 0 → IsCrossed E → IsCrossed E' →
    IsListWithin S W (numbers_of E ++ members_of K ++ numbers_of E')
of_none S W E E' K k none c d = let e = no_item K none in of_met S W K [] (numbers_of E ++ members_of K ++ numbers_of E') k
    (subst (λ (L : List (ℤ × ℤ)). IsRunsOf [] (Intersection (Covers L) (IsBetween W))) (sym e) (record { maximal = tt; members = λ z. ((λ c. absurd c), (λ s. absurd s.0)) }))
    (all_left [] E E' K c d e)

-- the part F of the run p, the only one
one_run : (W p F : ℤ × ℤ) → HasSome (Intersection (IsBetween p) (IsBetween W)) → SameMembers (IsBetween F) (Intersection (IsBetween p) (IsBetween W)) →
    IsRunsOf (F ∷ []) (Intersection (Covers (p ∷ [])) (IsBetween W))
one_run W p F s f = record {
  maximal = ((some_is_not_crossed F).0 (s.0, (f s.0).1 s.1), tt, tt);
  members = λ z. (
    ⊎_elim (λ b. let t = (f z).0 b in (inl t.0, t.1)) (λ c. absurd c),
    (λ t. inl ((f z).1 (⊎_elim (λ b. b) (λ c. absurd c) t.0, t.1))),
  );
}

pub of_one : (S : ℤ → Type 0) (W p F E : ℤ × ℤ) (K R : List (ℤ × ℤ)) → IsRunsOf K (OfRunsThatMeet (IsBetween W) S) → All (λ run. HasSome (Intersection (IsBetween run) (IsBetween W))) K → K ≡ p ∷ R → length R ≡ 0 →
    SameMembers (IsBetween F) (Intersection (IsBetween p) (IsBetween W)) → IsCrossed E → IsListWithin S W (numbers_of F ++ members_of R ++ numbers_of E)
of_one S W p F E K R k h e none f c =
    let n = no_item R none in
    let P : ℤ × ℤ → Type 0 = λ run. HasSome (Intersection (IsBetween run) (IsBetween W)) in
    let meets : P p = All-head P p R (subst (All P) e h) in
    let only : p ∷ [] ≡ K = sym (e ∙ ap (λ (L : List (ℤ × ℤ)). p ∷ L) n) in
    of_met S W K (F ∷ []) (numbers_of F ++ members_of R ++ numbers_of E) k
    (subst (λ (L : List (ℤ × ℤ)). IsRunsOf (F ∷ []) (Intersection (Covers L) (IsBetween W))) only (one_run W p F meets f))
    (ap (λ (N : List ℤ). numbers_of F ++ members_of R ++ N) (numbers_of-crossed E c) ∙ append-nil (numbers_of F ++ members_of R) ∙ ap (λ (L : List (ℤ × ℤ)). numbers_of F ++ members_of L) n)

-- ---- the part L of the last run q, in its place

starts_as_last : (u : ℤ) (B : List (ℤ × ℤ)) (q L : ℤ × ℤ) → q.0 ≤ℤ L.0 → StartsAfter u (B ++ q ∷ []) → StartsAfter u (B ++ L ∷ [])
starts_as_last u [] q L le s = omega (arith, ints)
starts_as_last u (b ∷ B) q L le s = s

maximal_with_last : (B : List (ℤ × ℤ)) (q L : ℤ × ℤ) → q.0 ≤ℤ L.0 → L.0 ≤ℤ L.1 → IsMaximal (B ++ q ∷ []) → IsMaximal (B ++ L ∷ [])
maximal_with_last [] q L le o m = (o, tt, tt)
maximal_with_last (b ∷ B) q L le o m = (m.0, starts_as_last b.1 B q L le m.1, maximal_with_last B q L le o m.2)

covers_last : (B : List (ℤ × ℤ)) (q : ℤ × ℤ) → IsMaximal (B ++ q ∷ []) → Covers (B ++ q ∷ []) q.0
covers_last B q m = covers-append_right B (q ∷ []) q.0 (inl (omega (arith, ints), last_open B q m))

below_last : (B : List (ℤ × ℤ)) (q : ℤ × ℤ) (z : ℤ) → IsMaximal (B ++ q ∷ []) → Covers B z → z <ℤ q.0
below_last [] q z m c = absurd c
below_last (b ∷ B) q z m (inl i) = let high = i.1 in let far = covered_after b.1 (B ++ q ∷ []) q.0 m.1 m.2 (covers_last B q m.2) in omega (arith, ints)
below_last (b ∷ B) q z m (inr c) = below_last B q z m.2 c

meets_last : (P : ℤ × ℤ → Type 0) (B : List (ℤ × ℤ)) (q : ℤ × ℤ) → All P (B ++ q ∷ []) → P q
meets_last P [] q h = All-head P q [] h
meets_last P (b ∷ B) q h = meets_last P B q (All-tail P b (B ++ q ∷ []) h)

module _ (W p q F L : ℤ × ℤ) (B : List (ℤ × ℤ)) (m : IsMaximal (p ∷ (B ++ q ∷ []))) (f : SameMembers (IsBetween F) (Intersection (IsBetween p) (IsBetween W)))
    (l : SameMembers (IsBetween L) (Intersection (IsBetween q) (IsBetween W))) (s : HasSome (Intersection (IsBetween p) (IsBetween W))) (t : HasSome (Intersection (IsBetween q) (IsBetween W))) where
  first_is_open : F.0 ≤ℤ F.1
  first_is_open = (some_is_not_crossed F).0 (s.0, (f s.0).1 s.1)

  cut_is_open : L.0 ≤ℤ L.1
  cut_is_open = (some_is_not_crossed L).0 (t.0, (l t.0).1 t.1)

  starts_later : q.0 ≤ℤ L.0
  starts_later = let o = cut_is_open in let b = (l L.0).0 (omega (arith, ints), o) in b.0.0

  ends_sooner : F.1 ≤ℤ p.1
  ends_sooner = let o = first_is_open in let b = (f F.1).0 (o, omega (arith, ints)) in b.0.1

  starts_after : (u v : ℤ) (N : List (ℤ × ℤ)) → v ≤ℤ u → StartsAfter u N → StartsAfter v N
  starts_after u v [] le a = tt
  starts_after u v (r ∷ N) le a = omega (arith, ints)

  in_window : (z : ℤ) → Covers B z → IsBetween W z
  in_window z c =
      let above = covered_after p.1 (B ++ q ∷ []) z m.1 m.2 (covers-append_left B (q ∷ []) z c) in
      let below = below_last B q z m.2 c in
      let low = s.1.1.0 in
      let low' = s.1.0.1 in
      let high = t.1.1.1 in
      let high' = t.1.0.0 in
      (omega (arith, ints), omega (arith, ints))

  pub cut_runs_of : IsRunsOf (F ∷ (B ++ L ∷ [])) (Intersection (Covers (p ∷ (B ++ q ∷ []))) (IsBetween W))
  cut_runs_of = record {
    maximal = (first_is_open, starts_after p.1 F.1 (B ++ L ∷ []) ends_sooner (starts_as_last p.1 B q L starts_later m.1), maximal_with_last B q L starts_later cut_is_open m.2);
    members = λ z. (
      ⊎_elim
          (λ b. let c = (f z).0 b in (inl c.0, c.1))
          (λ c. ⊎_elim
          (λ b. (inr (covers-append_left B (q ∷ []) z b), in_window z b))
          (⊎_elim (λ b. let d = (l z).0 b in (inr (covers-append_right B (q ∷ []) z (inl d.0)), d.1)) (λ n. absurd n))
          (covers-append B (L ∷ []) z c)),
      (λ d. ⊎_elim
          (λ b. inl ((f z).1 (b, d.1)))
          (λ c. inr (⊎_elim
          (λ b. covers-append_left B (L ∷ []) z b)
          (⊎_elim (λ b. covers-append_right B (L ∷ []) z (inl ((l z).1 (b, d.1)))) (λ n. absurd n))
          (covers-append B (q ∷ []) z c)))
          d.0),
    );
  }

pub of_many : (S : ℤ → Type 0) (W p q F L : ℤ × ℤ) (K R B : List (ℤ × ℤ)) → IsRunsOf K (OfRunsThatMeet (IsBetween W) S) → All (λ run. HasSome (Intersection (IsBetween run) (IsBetween W))) K →
    K ≡ p ∷ R → R ≡ B ++ q ∷ [] → SameMembers (IsBetween F) (Intersection (IsBetween p) (IsBetween W)) → SameMembers (IsBetween L) (Intersection (IsBetween q) (IsBetween W)) →
    IsListWithin S W (numbers_of F ++ members_of B ++ numbers_of L)
of_many S W p q F L K R B k h e n f l =
    let P : ℤ × ℤ → Type 0 = λ run. HasSome (Intersection (IsBetween run) (IsBetween W)) in
    let all : K ≡ p ∷ (B ++ q ∷ []) = e ∙ ap (λ (N : List (ℤ × ℤ)). p ∷ N) n in
    let meets : All P (p ∷ (B ++ q ∷ [])) = subst (All P) all h in
    let runs = cut_runs_of W p q F L B (subst IsMaximal all k.maximal) f l (All-head P p (B ++ q ∷ []) meets) (meets_last P B q (All-tail P p (B ++ q ∷ []) meets)) in
    of_met S W K (F ∷ (B ++ L ∷ [])) (numbers_of F ++ members_of B ++ numbers_of L) k
    (subst (λ (N : List (ℤ × ℤ)). IsRunsOf (F ∷ (B ++ L ∷ [])) (Intersection (Covers N) (IsBetween W))) (sym all) runs)
    (append_assoc (numbers_of F) (members_of B) (numbers_of L) ∙ ap (λ (N : List ℤ). numbers_of F ++ N) (sym (members_of-push B L)))

open_before_last : (B : List (ℤ × ℤ)) (q : ℤ × ℤ) → IsMaximal (B ++ q ∷ []) → AllByRecursion (λ r. r.0 ≤ℤ r.1) B
open_before_last [] q m = tt
open_before_last (b ∷ B) q m = (m.0, open_before_last B q m.2)

-- none of the runs between the first and the last is crossed
pub open_between : (p q : ℤ × ℤ) (K R B : List (ℤ × ℤ)) → IsMaximal K → K ≡ p ∷ R → R ≡ B ++ q ∷ [] → AllByRecursion (λ r. r.0 ≤ℤ r.1) B
open_between p q K R B m e n = open_before_last B q (subst IsMaximal (e ∙ ap (λ (N : List (ℤ × ℤ)). p ∷ N) n) m).2

-- it has no more numbers than the range of the set
pub within_counted : (L : List (ℤ × ℤ)) (whole W : ℤ × ℤ) (M : List ℤ) → IsRunListIn whole L → IsListWithin (Covers L) W M → length M ≤ width_of whole
within_counted L whole W M r w = ascending_counted M whole w.ascending (λ z i. r.within z ((w.members z).1 i).0)
