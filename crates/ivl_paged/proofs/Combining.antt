-- Operations by windows: the parts of two sets in a window, and what is put behind the pages so far.
use Rattle.std.proofs.Common.{◌≡◌, ⊎_elim, inl, inr, ℕ, ◌+◌, ◌-◌, ◌<◌, ◌≤◌, ℤ, pos, ◌+ℤ◌, ◌≤ℤ◌, ◌<ℤ◌, List, [], ◌∷◌, ◌++◌, length, get_or, take, drop, sym, ap, subst, ◌∙◌, arith, take_all}
use Rattle.std.proofs.lemmas.List.{drop-drop}
use Rattle.std.proofs.lemmas.Int.{ints, by_lt_z}
use Rattle.ivl_laws.specs.Bounds.{width_of}
use Rattle.ivl_laws.specs.Families.{set_at}
use Rattle.ivl_laws.specs.Sets.{Below, Intersection, IsBetween, IsSubset, SameMembers, Union, Without}
use Rattle.ivl_laws.specs.Runs.{Covers, IsMaximal, IsRunListIn, IsRunsOf}
use Rattle.ivl_laws.proofs.Intervals.{width_of-filled}
use Rattle.ivl_laws.proofs.Runs.{covered_after, covered_from, lower_end}
use Rattle.ivl_laws.proofs.SetLaws.{IsRunsOf-same}
use Rattle.ivl_laws.proofs.Merging.{covers-append, covers-append_left, covers-append_right}
use Rattle.ivl_places.specs.Neighbours.{IsGreatest}
use Rattle.ivl_walks.specs.Order.{IsBelow}
use Rattle.ivl_walks.proofs.MergeState.{IsMaximal-append}
use Rattle.ivl_paged.specs.Operations.{KeptBy}
use Rattle.ivl_paged.specs.declared.combine.Operation.{Operation}
use Rattle.ivl_paged.specs.declared.combine.Operation.TheVariants.{Either, Both, FirstAlone, OneAlone}
use Rattle.ivl_paged.specs.Pages.{StartsUpTo, flattened}
use Rattle.ivl_paged.proofs.Paging.{IsMaximal-dropped, IsMaximal-taken, covers_dropped, covers_taken, cut_at, ends_below, flattened_more, order_of, page_of, pages_ascend, parts_apart}

-- ---- the pages that meet a window

starts_in_order : (P : List (List (ℤ × ℤ))) (u v : ℤ) (a b : ℕ) → StartsUpTo P u a → StartsUpTo P v b → u ≤ℤ v → a ≤ b
starts_in_order P u v a b s t o = ⊎_elim
    (λ lt. let (z, c, up) = s.starts (omega (arith, lt)) in let far = t.above (a - 1) z (omega (arith, lt)) c in absurd (omega (arith, ints, up, far, o)))
    (λ le. le)
    (order_of b a)

-- a pages start up to the lower end of the window, and b up to the upper one
module _ (whole : ℤ × ℤ) (P : List (List (ℤ × ℤ))) (p : ℤ × ℤ) (a b i : ℕ) (r : IsRunListIn whole (flattened P)) (o : p.0 ≤ℤ p.1) (s : StartsUpTo P p.0 a) (t : StartsUpTo P p.1 b) (e : i ≡ a - 1) where
  pub window_in_order : i ≤ b
  window_in_order = let le = starts_in_order P p.0 p.1 a b s t o in omega (arith, e, le)

  gathered_before : flattened P ≡ flattened (take i P) ++ flattened (drop i P)
  gathered_before = cut_at P i

  gathered_after : flattened (drop i P) ≡ flattened (take (b - i) (drop i P)) ++ flattened (drop (b - i) (drop i P))
  gathered_after = cut_at (drop i P) (b - i)

  gathered_is_in : (z : ℤ) → Covers (flattened (take (b - i) (drop i P))) z → Covers (flattened P) z
  gathered_is_in z c =
      let F : List (ℤ × ℤ) → Type 0 = λ L. Covers L z in
      subst F (sym gathered_before) (covers-append_right (flattened (take i P)) (flattened (drop i P)) z
      (subst F (sym gathered_after) (covers-append_left (flattened (take (b - i) (drop i P))) (flattened (drop (b - i) (drop i P))) z c)))

  pub gathered_runs : IsRunListIn whole (flattened (take (b - i) (drop i P)))
  gathered_runs = record {
    maximal = IsMaximal-taken (drop i P) (b - i) (IsMaximal-dropped P i r.maximal);
    within = λ z c. r.within z (gathered_is_in z c);
  }

  gathered_all : (z : ℤ) → IsBetween p z → Covers (flattened P) z → Covers (flattened (take (b - i) (drop i P))) z
  gathered_all z (low, high) c =
      let F : List (ℤ × ℤ) → Type 0 = λ L. Covers L z in
      let more : i + (b - i) ≡ b = let le = window_in_order in omega (arith, le) in
      ⊎_elim
      (λ d. absurd (
      let (k, h, q) = covers_taken P i z d in
      let far = ends_below P p.0 a k z r.maximal s (omega (arith, h, e)) q in omega (arith, ints, far, low)
      ))
      (λ d. ⊎_elim
      (λ g. g)
      (λ f. absurd (
      let (k, h, q) = covers_dropped P b z (subst (λ (D : List (List (ℤ × ℤ))). Covers (flattened D) z) (drop-drop (b - i) i P ∙ ap (λ (n : ℕ). drop n P) more) f) in
      let far = t.above k z h q in omega (arith, ints, far, high)
      ))
      (covers-append (flattened (take (b - i) (drop i P))) (flattened (drop (b - i) (drop i P))) z (subst F gathered_after d)))
      (covers-append (flattened (take i P)) (flattened (drop i P)) z (subst F gathered_before c))

  pub gathered_members : SameMembers (Intersection (Covers (flattened (take (b - i) (drop i P)))) (IsBetween p)) (Intersection (Covers (flattened P)) (IsBetween p))
  gathered_members z = ((λ (c, w). (gathered_is_in z c, w)), (λ (c, w). (gathered_all z w c, w)))

-- ---- an operation in a window

without_cut : (S T A B W : ℤ → Type 0) → SameMembers A (Intersection S W) → SameMembers B (Intersection T W) → SameMembers (Without A B) (Intersection (Without S T) W)
without_cut S T A B W a b z = (
  (λ (c, n). let (s, w) = (a z).0 c in ((s, λ t. n ((b z).1 (t, w))), w)),
  (λ (c, w). ((a z).1 (c.0, w), λ d. c.1 ((b z).0 d).0)),
)

-- A and B are what two sets have in a window
pub kept_in_window : (op : Operation) (S T A B W : ℤ → Type 0) → SameMembers A (Intersection S W) → SameMembers B (Intersection T W) → SameMembers (KeptBy op A B) (Intersection (KeptBy op S T) W)
kept_in_window Either S T A B W a b z = (
  ⊎_elim (λ c. let (s, w) = (a z).0 c in (inl s, w)) (λ c. let (t, w) = (b z).0 c in (inr t, w)),
  (λ (c, w). ⊎_elim (λ s. inl ((a z).1 (s, w))) (λ t. inr ((b z).1 (t, w))) c),
)
kept_in_window Both S T A B W a b z = (
  (λ (c, d). let (s, w) = (a z).0 c in ((s, ((b z).0 d).0), w)),
  (λ (c, w). ((a z).1 (c.0, w), (b z).1 (c.1, w))),
)
kept_in_window FirstAlone S T A B W a b z = without_cut S T A B W a b z
kept_in_window OneAlone S T A B W a b z =
    let f = without_cut S T A B W a b z in
    let g = without_cut T S B A W b a z in (
      ⊎_elim (λ c. let (s, w) = f.0 c in (inl s, w)) (λ c. let (t, w) = g.0 c in (inr t, w)),
      (λ (c, w). ⊎_elim (λ s. inl (f.1 (s, w))) (λ t. inr (g.1 (t, w))) c),
    )

-- A has what S has in the window p, and B what T has there
pub piece_there : (op : Operation) (S T : ℤ → Type 0) (A B A' B' K : List (ℤ × ℤ)) (p : ℤ × ℤ) (l u : ℤ) → p ≡ (l, u) → A' ≡ A → B' ≡ B → IsRunsOf A (Intersection S (IsBetween p)) →
    IsRunsOf B (Intersection T (IsBetween p)) → IsRunsOf K (KeptBy op (Covers A') (Covers B')) → IsRunsOf K (Intersection (KeptBy op S T) (IsBetween (l, u)))
piece_there op S T A B A' B' K p l u same e f a b made =
    let k : IsRunsOf K (KeptBy op (Covers A) (Covers B)) =
    subst (λ (L : List (ℤ × ℤ)). IsRunsOf K (KeptBy op (Covers L) (Covers B))) e (subst (λ (L : List (ℤ × ℤ)). IsRunsOf K (KeptBy op (Covers A') (Covers L))) f made) in
    subst (λ (q : ℤ × ℤ). IsRunsOf K (Intersection (KeptBy op S T) (IsBetween q))) same
    (IsRunsOf-same _ _ K (kept_in_window op S T (Covers A) (Covers B) (IsBetween p) a.members b.members) k)

pub kept_within : (op : Operation) (S T W : ℤ → Type 0) → IsSubset S W → IsSubset T W → IsSubset (KeptBy op S T) W
kept_within Either S T W s t z c = ⊎_elim (s z) (t z) c
kept_within Both S T W s t z c = s z c.0
kept_within FirstAlone S T W s t z c = s z c.0
kept_within OneAlone S T W s t z c = ⊎_elim (λ d. s z d.0) (λ d. t z d.0) c

-- ---- window by window

-- K has the members of C in a window from l to u, and P those below it
module _ (C : ℤ → Type 0) (P K : List (ℤ × ℤ)) (l u : ℤ) (p : IsRunsOf P (Below l C)) (k : IsRunsOf K (Intersection C (IsBetween (l, u)))) where
  pub window_is_above : IsBelow (pos 1) (Covers P) (Covers K)
  window_is_above x y c d = let lt = ((p.members x).0 c).1 in let le = ((k.members y).0 d).1.0 in omega (arith, ints, lt, le)

  pub window_is_next : (Q : List (ℤ × ℤ)) (n : ℤ) → l ≤ℤ u → n ≡ u +ℤ pos 1 → IsRunsOf Q (Union (Covers P) (Covers K)) → IsRunsOf Q (Below n C)
  window_is_next Q n o e q = record {
    maximal = q.maximal;
    members = λ z. (
      (λ c. ⊎_elim
          (λ d. let (s, lt) = (p.members z).0 d in (s, omega (arith, ints, lt, o, e)))
          (λ d. let (s, w) = (k.members z).0 d in let up = w.1 in (s, omega (arith, ints, up, e)))
          ((q.members z).0 c)),
      (λ (s, lt). (q.members z).1 (by_lt_z z l
          (λ below. inl ((p.members z).1 (s, below)))
          (λ le. inr ((k.members z).1 (s, (le, omega (arith, ints, lt, e))))))),
    );
  }

  pub window_is_last : (Q : List (ℤ × ℤ)) (whole : ℤ × ℤ) → IsSubset C (IsBetween whole) → whole.1 ≤ℤ u → IsRunsOf Q (Union (Covers P) (Covers K)) → IsRunsOf Q C
  window_is_last Q whole within end q = record {
    maximal = q.maximal;
    members = λ z. (
      (λ c. ⊎_elim (λ d. ((p.members z).0 d).0) (λ d. ((k.members z).0 d).0) ((q.members z).0 c)),
      (λ s. (q.members z).1 (by_lt_z z l
          (λ below. inl ((p.members z).1 (s, below)))
          (λ le. inr ((k.members z).1 (s, (le, let up = (within z s).1 in omega (arith, ints, up, end))))))),
    );
  }

-- ---- a list of runs put behind those of pages

-- u is the greatest number of the last page
pub apart_from_last : (P : List (List (ℤ × ℤ))) (K rest : List (ℤ × ℤ)) (run : ℤ × ℤ) (n : ℕ) (u : ℤ) → IsMaximal (flattened P) → IsMaximal K → n + 1 ≡ length P → K ≡ run ∷ rest →
    IsGreatest u (set_at P n) → (u +ℤ pos 2) ≤ℤ run.0 → IsBelow (pos 2) (Covers (flattened P)) (Covers K)
apart_from_last P K rest run n u m k last e g far x y c d =
    let (i, h, a) = page_of P x c in
    let up : x ≤ℤ u = ⊎_elim
    (λ lt. let less = pages_ascend P i n x u m lt a g.0 in omega (arith, ints, less))
    (λ le. g.1 x (subst (λ (j : ℕ). set_at P j x) (omega (arith, h, last, le)) a))
    (order_of i n) in
    let low = covered_from run rest y (subst IsMaximal e k) (subst (λ (L : List (ℤ × ℤ)). Covers L y) e d) in
    omega (arith, ints, up, low, far)

pub appended : (A B : List (ℤ × ℤ)) → IsMaximal A → IsMaximal B → IsBelow (pos 2) (Covers A) (Covers B) → IsRunsOf (A ++ B) (Union (Covers A) (Covers B))
appended A B m n far = record {
  maximal = IsMaximal-append A B m n far;
  members = λ z. (covers-append A B z, ⊎_elim (covers-append_left A B z) (covers-append_right A B z));
}

-- A has what the first k pages have in W, and K what the next one has there
pub gathered_more : (P : List (List (ℤ × ℤ))) (k : ℕ) (A K L : List (ℤ × ℤ)) (W : ℤ → Type 0) → IsMaximal (flattened P) → k < length P → L ≡ get_or P k L → IsRunsOf A (Intersection (Covers (flattened (take k P))) W) →
    IsRunsOf K (Intersection (Covers L) W) → IsRunsOf (A ++ K) (Intersection (Covers (flattened (take (k + 1) P))) W)
gathered_more P k A K L W m h is a b =
    let F = flattened (take k P) in
    let e : flattened (take (k + 1) P) ≡ F ++ L = flattened_more P k L h ∙ ap (λ (M : List (ℤ × ℤ)). F ++ M) (sym is) in
    let ascend : IsMaximal (F ++ L) = subst IsMaximal e (IsMaximal-taken P (k + 1) m) in
    let all = appended A K a.maximal b.maximal (λ x y c d. parts_apart F L x y ascend ((a.members x).0 c).0 ((b.members y).0 d).0) in
    subst (λ (M : List (ℤ × ℤ)). IsRunsOf (A ++ K) (Intersection (Covers M) W)) (sym e) (record {
      maximal = all.maximal;
      members = λ z. (
        (λ c. ⊎_elim (λ f. let (g, w) = (a.members z).0 f in (covers-append_left F L z g, w)) (λ f. let (g, w) = (b.members z).0 f in (covers-append_right F L z g, w)) ((all.members z).0 c)),
        (λ (c, w). (all.members z).1 (⊎_elim (λ f. inl ((a.members z).1 (f, w))) (λ f. inr ((b.members z).1 (f, w))) (covers-append F L z c))),
      );
    })

-- the first run of K is put in P, which makes A, and taken from K, which leaves B
module _ (P K A B rest : List (ℤ × ℤ)) (run : ℤ × ℤ) (k : IsMaximal K) (e : K ≡ run ∷ rest) (above : IsBelow (pos 1) (Covers P) (Covers K))
    (put : IsRunsOf A (Union (Covers P) (IsBetween run))) (left : IsRunsOf B (Without (Covers K) (IsBetween run))) where
  first_there : (z : ℤ) → IsBetween run z → Covers K z
  first_there z b = subst (λ (L : List (ℤ × ℤ)). Covers L z) (sym e) (inl b)

  filled : run.0 ≤ℤ run.1
  filled = let m : IsMaximal (run ∷ rest) = subst IsMaximal e k in m.0

  rest_above : (z : ℤ) → Covers B z → (run.1 +ℤ pos 2) ≤ℤ z
  rest_above z c =
      let (d, n) = (left.members z).0 c in
      let m : IsMaximal (run ∷ rest) = subst IsMaximal e k in
      let there : Covers (run ∷ rest) z = subst (λ (L : List (ℤ × ℤ)). Covers L z) e d in
      ⊎_elim (λ b. absurd (n b)) (λ r. covered_after run.1 rest z m.1 m.2 r) there

  pub rest_is_apart : IsBelow (pos 2) (Covers A) (Covers B)
  rest_is_apart x y c d =
      let far = rest_above y d in
      ⊎_elim
      (λ a. let low = above x run.0 a (first_there run.0 (lower_end run filled)) in let o = filled in omega (arith, ints, low, o, far))
      (λ b. let up = b.1 in omega (arith, ints, up, far))
      ((put.members x).0 c)

  pub first_and_rest : IsRunsOf (A ++ B) (Union (Covers P) (Covers K))
  first_and_rest =
      let both = appended A B put.maximal left.maximal rest_is_apart in record {
        maximal = both.maximal;
        members = λ z. (
          (λ c. ⊎_elim
              (λ a. ⊎_elim (λ d. inl d) (λ b. inr (first_there z b)) ((put.members z).0 a))
              (λ b. inr ((left.members z).0 b).0)
              ((both.members z).0 c)),
          ⊎_elim
              (λ d. (both.members z).1 (inl ((put.members z).1 (inl d))))
              (λ d.
              let there : Covers (run ∷ rest) z = subst (λ (L : List (ℤ × ℤ)). Covers L z) e d in
              let m : IsMaximal (run ∷ rest) = subst IsMaximal e k in
              ⊎_elim
              (λ b. (both.members z).1 (inl ((put.members z).1 (inr b))))
              (λ r. (both.members z).1 (inr ((left.members z).1 (
                d,
                λ b.
                    let far = covered_after run.1 rest z m.1 m.2 r in
                    let up = b.1 in
                    omega (arith, ints, far, up),
              ))))
              there),
        );
      }

-- what is left of K without its first run
pub rest_left : (K B rest : List (ℤ × ℤ)) (run : ℤ × ℤ) → IsMaximal K → K ≡ run ∷ rest → B ≡ take (length K - 1) (drop 1 K) → IsRunsOf B (Without (Covers K) (IsBetween run))
rest_left K B rest run m e f =
    let n : IsMaximal (run ∷ rest) = subst IsMaximal e m in
    let there : take (length (run ∷ rest) - 1) rest ≡ rest = take_all (length (run ∷ rest) - 1) rest (omega arith) in
    let g : B ≡ rest = f ∙ ap (λ (L : List (ℤ × ℤ)). take (length L - 1) (drop 1 L)) e ∙ there in
    let left : IsRunsOf rest (Without (Covers (run ∷ rest)) (IsBetween run)) = record {
      maximal = n.2;
      members = λ z. (
        (λ c. (inr c, λ b. let far = covered_after run.1 rest z n.1 n.2 c in let up = b.1 in omega (arith, ints, far, up))),
        (λ (c, out). ⊎_elim (λ b. absurd (out b)) (λ r. r) c),
      );
    } in
    subst (λ (L : List (ℤ × ℤ)). IsRunsOf L (Without (Covers K) (IsBetween run))) (sym g) (subst (λ (L : List (ℤ × ℤ)). IsRunsOf rest (Without (Covers L) (IsBetween run))) (sym e) left)

-- fewer numbers are left above the next window
pub less_left : (l u n end : ℤ) → l ≤ℤ u → u <ℤ end → n ≡ u +ℤ pos 1 → width_of (n, end) < width_of (l, end)
less_left l u n end o lt e =
    let all = width_of-filled (l, end) (omega (arith, ints, o, lt)) in
    let rest = width_of-filled (n, end) (omega (arith, ints, lt, e)) in
    omega (arith, ints, all, rest, o, e)

-- ---- before the first window

pub nothing_below : (S : ℤ → Type 0) (whole : ℤ × ℤ) (v : ℤ) → v ≡ whole.0 → IsSubset S (IsBetween whole) → IsRunsOf [] (Below v S)
nothing_below S whole v e within = record {
  maximal = tt;
  members = λ z. ((λ a. absurd a), (λ b. let low = (within z b.0).0 in let up = b.1 in absurd (omega (arith, ints, e, low, up))));
}
