-- An interval added to pages that it touches: to the first of them, with what it reaches in the last.
use Rattle.std.proofs.Common.{◌≡◌, ⊎_elim, inl, inr, ℕ, ◌+◌, ◌-◌, ◌<◌, ◌⊎◌, ℤ, pos, ◌+ℤ◌, ◌-ℤ◌, ◌≤ℤ◌, List, [], ◌∷◌, ◌++◌, Bool, false, get_or, take, drop, set, sym, ap, ap₂, subst, ◌∙◌, arith, append_assoc}
use Rattle.std.specs.Prelude.{◌↔◌, IsTrue}
use Rattle.std.proofs.lemmas.Int.{ints, by_lt_z}
use Rattle.ivl_laws.specs.Families.{set_at}
use Rattle.ivl_laws.specs.Sets.{AtLeast, HasSome, Intersection, IsBetween, IsSubset, Union}
use Rattle.ivl_laws.specs.Runs.{Covers, IsRunListIn, IsRunsOf}
use Rattle.ivl_laws.proofs.Lengths.{decide_between}
use Rattle.ivl_laws.proofs.Merging.{covers-append, covers-append_left, covers-append_right}
use Rattle.ivl_places.specs.Edits.{widened}
use Rattle.ivl_places.specs.Neighbours.{IsLeast, IsRunWith}
use Rattle.ivl_walks.proofs.MergeState.{IsMaximal-append}
use Rattle.ivl_paged.specs.Pages.{IsInsertSpan, IsPageCut, IsPageSpan, IsReaching, flattened}
use Rattle.ivl_paged.proofs.Paging.{flattened-append, inserted, order_of, page_of, pages_ascend}
use Rattle.ivl_paged.proofs.Removing.{drop_past, first_is, first_there, fits, rest_is, set_is, take_within}

-- ---- what p touches in one page, whose members are S

-- n is the least member from the number before p on, or from p on where that is the least number of all; a is the number after, or the last of all
pub touched_by_next : (whole : ℤ × ℤ) (S : ℤ → Type 0) (p : ℤ × ℤ) (l u d a n : ℤ) (t : Bool) → IsSubset S (IsBetween whole) → l ≡ p.0 → u ≡ p.1 →
    (d ≡ l -ℤ pos 1) ⊎ ((d ≡ l) × (l ≡ whole.0)) → (a ≡ u +ℤ pos 1) ⊎ ((a ≡ u) × (u ≡ whole.1)) → IsLeast n (AtLeast d S) → (IsTrue t ↔ (n ≤ℤ a)) →
    IsTrue t ↔ HasSome (Intersection S (IsBetween (widened p)))
touched_by_next whole S p l u d a n t within e f below above ((c, from), least) k = (
  (λ h.
      let up = k.0 h in
      let low : (p.0 -ℤ pos 1) ≤ℤ n = ⊎_elim (λ g. omega (arith, ints, from, g, e)) (λ (g, i). omega (arith, ints, from, g, e)) below in
      let high : n ≤ℤ (p.1 +ℤ pos 1) = ⊎_elim (λ g. omega (arith, ints, up, g, f)) (λ (g, i). omega (arith, ints, up, g, f)) above in
      (n, (c, (low, high)))),
  (λ (z, (s, b)).
      let low = b.0 in
      let high = b.1 in
      let w = within z s in
      let least_in = w.0 in
      let most_in = w.1 in
      let after : d ≤ℤ z = ⊎_elim (λ g. omega (arith, ints, low, g, e)) (λ (g, i). omega (arith, ints, least_in, g, i)) below in
      let until : z ≤ℤ a = ⊎_elim (λ g. omega (arith, ints, high, g, f)) (λ (g, i). omega (arith, ints, most_in, g, i)) above in
      let le = least z (s, after) in
      k.1 (omega (arith, ints, le, until))),
)

-- a run has a, the number after p, or the last of p
pub reaching_run : (m : ℤ) (S : ℤ → Type 0) (p q run : ℤ × ℤ) (a l h u : ℤ) → l ≡ p.0 → u ≡ p.1 → (a ≡ u +ℤ pos 1) ⊎ ((a ≡ u) × (u ≡ m)) → IsRunWith a S run → h ≡ run.1 → q ≡ (l, h) → IsReaching p S q
reaching_run m S p q run a l h u e f above r g made =
    let first : q.0 ≡ l = ap (λ (x : ℤ × ℤ). x.0) made in
    let last : q.1 ≡ h = ap (λ (x : ℤ × ℤ). x.1) made in
    let low = r.holds.0 in
    let high = r.holds.1 in
    record {
      starts = omega (arith, ints, first, e);
      ends = ⊎_elim (λ i. omega (arith, ints, last, g, high, i, f)) (λ (i, j). omega (arith, ints, last, g, high, i, f)) above;
      inside = λ z b. let up = b.1 in let down = b.0 in by_lt_z p.1 z
          (λ lt. inl (r.inside z (⊎_elim (λ i. omega (arith, ints, low, lt, i, f)) (λ (i, j). omega (arith, ints, low, lt, i, f)) above, omega (arith, ints, up, last, g))))
          (λ le. inr (omega (arith, ints, down, first, e), omega (arith, ints, le)));
      free_above = λ c. r.free_above (subst S (omega (arith, ints, last, g)) c);
    }

-- ---- the pages that p touches

module _ (whole : ℤ × ℤ) (P : List (List (ℤ × ℤ))) (p : ℤ × ℤ) (i j : ℕ) (r : IsRunListIn whole (flattened P)) (filled : p.0 ≤ℤ p.1) (s : IsInsertSpan whole P p i j) where
  -- a number of the pages that is above the next one of p is above it by two
  next_at_most : s.next ≤ℤ (p.1 +ℤ pos 1)
  next_at_most = ⊎_elim (λ e. omega (arith, ints, e)) (λ (e, f). omega (arith, ints, e)) s.is_next

  next_at_least : p.1 ≤ℤ s.next
  next_at_least = ⊎_elim (λ e. omega (arith, ints, e)) (λ (e, f). omega (arith, ints, e)) s.is_next

  -- of the pages, p touches the one of the span alone
  pub touched_there : j - i ≡ 1 → HasSome (Intersection (Covers (flattened P)) (IsBetween (widened p))) → HasSome (Intersection (set_at P i) (IsBetween (widened p)))
  touched_there one (z, (c, b)) =
      let (k, h, a) = page_of P z c in
      let low = b.0 in
      let high = b.1 in
      let o = s.span.in_order in
      ⊎_elim
      (λ lt. absurd (let far = s.span.below k z lt a in omega (arith, ints, far, low)))
      (λ le. ⊎_elim
      (λ lt. absurd (let far = s.span.above k z (omega (arith, one, o, lt)) a in let w = (r.within z c).1 in ⊎_elim
      (λ e. omega (arith, ints, far, high, e))
      (λ (e, f). omega (arith, ints, far, e, f, w))
      s.is_next))
      (λ same. (z, (subst (λ (l : ℕ). set_at P l z) (omega (arith, le, same)) a, b)))
      (order_of i k))
      (order_of k i)

  module _ (several : ¬ (j - i ≡ 1)) where
    more : i + 1 < j
    more = let o = s.span.in_order in omega (arith, o, several)

    -- the first page is not touched
    pub next_span : ¬ (HasSome (Intersection (set_at P i) (IsBetween (widened p)))) → IsInsertSpan whole P p (i + 1) j
    next_span free = record {
      next = s.next;
      is_next = s.is_next;
      span = record {
        in_order = more;
        at_most = s.span.at_most;
        below = λ k z h c. ⊎_elim
            (λ lt. s.span.below k z lt c)
            (λ le. let here : set_at P i z = subst (λ (l : ℕ). set_at P l z) (omega (arith, h, le)) c in below_first z here)
            (order_of k i);
        from = λ k z h c. s.span.from k z (omega (arith, h)) c;
        to = s.span.to;
        above = s.span.above;
        last = λ h. s.span.last more;
      };
    }
      where
        below_first : (z : ℤ) → set_at P i z → (z +ℤ pos 2) ≤ℤ p.0
        below_first z c =
            let (y, d, le) = s.span.last more in
            let m = more in
            let far = pages_ascend P i (j - 1) z y r.maximal (omega (arith, m)) c d in
            let near = next_at_most in
            by_lt_z z (p.0 -ℤ pos 1)
            (λ lt. omega (arith, ints, lt))
            (λ ge. absurd (free (z, (c, (omega (arith, ints, ge), omega (arith, ints, far, le, near))))))

    -- then the next one is
    pub next_touched : (h : ℤ) → IsLeast h (set_at P (i + 1)) → HasSome (Intersection (set_at P (i + 1)) (IsBetween (widened p)))
    next_touched h l =
        let (y, d, le) = s.span.last more in
        let m = more in
        let near = next_at_most in
        let low = s.span.from (i + 1) h (omega arith) l.0 in
        let high : h ≤ℤ y = ⊎_elim
        (λ lt. let far = pages_ascend P (i + 1) (j - 1) h y r.maximal lt l.0 d in omega (arith, ints, far))
        (λ none. l.1 y (subst (λ (k : ℕ). set_at P k y) (omega (arith, none, m)) d))
        (order_of (i + 1) (j - 1)) in
        (h, (l.0, (omega (arith, ints, low), omega (arith, ints, high, le, near))))

    -- q goes up to the end of what p reaches in the last page
    module _ (q : ℤ × ℤ) (reach : IsReaching p (set_at P (j - 1)) q) where
      pub reached_span : IsPageSpan P q.0 q.1 i j
      reached_span =
          let (y, d, le) = s.span.last more in
          let m = more in
          let near = next_at_most in
          let least = next_at_least in
          let same = reach.starts in
          let ends = reach.ends in
          let high : y ≤ℤ q.1 = by_lt_z q.1 y (λ lt. absurd (reach.free_above (subst (set_at P (j - 1)) (omega (arith, ints, lt, le, near, ends)) d))) (λ le. le) in
          record {
            in_order = s.span.in_order;
            at_most = s.span.at_most;
            below = λ k z h c. let far = s.span.below k z h c in omega (arith, ints, far, same);
            from = λ k z h c. let far = s.span.from k z h c in omega (arith, ints, far, same);
            to = λ k z h c. let far = pages_ascend P k (j - 1) z y r.maximal (omega (arith, h)) c d in omega (arith, ints, far, high);
            above = λ k z h c. by_lt_z p.1 q.1
                (λ lt. ⊎_elim
                (λ a. let far = pages_ascend P (j - 1) k q.1 z r.maximal (omega (arith, h, m)) a c in omega (arith, ints, far))
                (λ b. absurd (let up = b.1 in omega (arith, ints, up, lt)))
                (reach.inside q.1 (let o = filled in omega (arith, ints, o, lt, same), omega (arith, ints))))
                (λ le. let far = s.span.above k z h c in omega (arith, ints, far, le, least));
            last = λ h. (y, d, high);
          }

      reached : IsSubset (IsBetween p) (IsBetween q)
      reached z b = let low = b.0 in let high = b.1 in let same = reach.starts in let ends = reach.ends in (omega (arith, ints, low, same), omega (arith, ints, high, ends))

      -- Q is P without q in the last page, R without the pages between, and T with q added to the first page, which is L then
      module _ (Q R T : List (List (ℤ × ℤ))) (L : List (ℤ × ℤ)) (high : IsPageCut P q (j - 1) Q) (between : R ≡ take (i + 1) Q ++ drop (j - 1) Q) where
        first_same : get_or R i [] ≡ get_or P i []
        first_same = first_is P Q R [] q i j r.maximal reached_span several high between

        pub first_touched : HasSome (Intersection (set_at P i) (IsBetween (widened p))) → HasSome (Intersection (set_at R i) (IsBetween (widened q)))
        first_touched (z, (c, b)) =
            let low = b.0 in
            let up = b.1 in
            let same = reach.starts in
            let ends = reach.ends in
            (z, (subst (λ (M : List (ℤ × ℤ)). Covers M z) (sym first_same) c, (omega (arith, ints, low, same), omega (arith, ints, up, ends))))

        pub first_test : (t : Bool) → (IsTrue t ↔ set_at R i q.0) → IsTrue t ↔ set_at P i p.0
        first_test t k = subst (λ (x : ℤ). IsTrue t ↔ set_at P i x) reach.starts (subst (λ (M : List (ℤ × ℤ)). IsTrue t ↔ Covers M q.0) first_same k)

        module _ (made : T ≡ set R i L) (l : IsRunsOf L (Union (set_at R i) (IsBetween q))) where
          pages_are : T ≡ take i P ++ (L ∷ (high.left ++ drop j P))
          pages_are =
              let there = first_there P Q R [] q i j r.maximal reached_span several high between in
              let is = rest_is P Q R [] q i j r.maximal reached_span several high between in
              let enough = fits P Q R [] q i j r.maximal reached_span several high between in
              made ∙ set_is R i L there
              ∙ ap (λ (N : List (List (ℤ × ℤ))). take i N ++ (L ∷ drop (i + 1) N)) is
              ∙ ap₂ (λ (A B : List (List (ℤ × ℤ))). A ++ (L ∷ B)) (take_within P (high.left ++ drop j P) i (i + 1) (omega arith) enough) (drop_past P (high.left ++ drop j P) (i + 1) enough)

          runs_are : flattened T ≡ flattened (take i P) ++ ((L ++ flattened high.left) ++ flattened (drop j P))
          runs_are =
              ap flattened pages_are
              ∙ flattened-append (take i P) (L ∷ (high.left ++ drop j P))
              ∙ ap (λ (M : List (ℤ × ℤ)). flattened (take i P) ++ (L ++ M)) (flattened-append high.left (drop j P))
              ∙ ap (λ (M : List (ℤ × ℤ)). flattened (take i P) ++ M) (sym (append_assoc L (flattened high.left) (flattened (drop j P))))

          apart : (x y : ℤ) → Covers L x → Covers (flattened high.left) y → (x +ℤ pos 2) ≤ℤ y
          apart x y c d =
              let (e, out) = (high.members.members y).0 d in
              let m = more in
              ⊎_elim
              (λ a. pages_ascend P i (j - 1) x y r.maximal (omega (arith, m)) (subst (λ (M : List (ℤ × ℤ)). Covers M x) first_same a) e)
              (λ b.
              let up = b.1 in
              let low = reached_span.from (j - 1) y (omega (arith, m)) e in
              by_lt_z q.1 y
              (λ lt. by_lt_z (q.1 +ℤ pos 1) y
              (λ far. omega (arith, ints, far, up))
              (λ near. absurd (reach.free_above (subst (set_at P (j - 1)) (omega (arith, ints, lt, near)) e))))
              (λ le. absurd (out (omega (arith, ints, low), le))))
              ((l.members x).0 c)

          both : IsRunsOf (L ++ flattened high.left) (Union (Union (set_at P i) (set_at P (j - 1))) (IsBetween p))
          both = record {
            maximal = IsMaximal-append L (flattened high.left) l.maximal high.members.maximal apart;
            members = λ z. (
              (λ c. ⊎_elim
                  (λ d. ⊎_elim
                  (λ a. inl (inl (subst (λ (M : List (ℤ × ℤ)). Covers M z) first_same a)))
                  (λ b. ⊎_elim (λ e. inl (inr e)) (λ e. inr e) (reach.inside z b))
                  ((l.members z).0 d))
                  (λ d. inl (inr ((high.members.members z).0 d).0))
                  (covers-append L (flattened high.left) z c)),
              ⊎_elim
                  (⊎_elim
                  (λ a. covers-append_left L (flattened high.left) z ((l.members z).1 (inl (subst (λ (M : List (ℤ × ℤ)). Covers M z) (sym first_same) a))))
                  (λ a. ⊎_elim
                  (λ b. covers-append_left L (flattened high.left) z ((l.members z).1 (inr b)))
                  (λ out. covers-append_right L (flattened high.left) z ((high.members.members z).1 (a, out)))
                  (decide_between q z)))
                  (λ b. covers-append_left L (flattened high.left) z ((l.members z).1 (inr (reached z b)))),
            );
          }

          pub inserted_over : IsRunsOf (flattened T) (Union (Covers (flattened P)) (IsBetween p))
          inserted_over = subst (λ (M : List (ℤ × ℤ)). IsRunsOf M (Union (Covers (flattened P)) (IsBetween p))) (sym runs_are)
              (inserted whole P (L ++ flattened high.left) p s.next i j r filled s.is_next s.span both)

-- p is not in a page that it does not touch
pub not_in_untouched : (S : ℤ → Type 0) (p : ℤ × ℤ) → p.0 ≤ℤ p.1 → ¬ (HasSome (Intersection S (IsBetween (widened p)))) → IsTrue false ↔ S p.0
not_in_untouched S p filled free = ((λ h. absurd (cc)), (λ c. absurd (free (p.0, (c, (omega (arith, ints), omega (arith, ints, filled)))))))

-- L is page k
pub reaching : (P : List (List (ℤ × ℤ))) (L : List (ℤ × ℤ)) (p q : ℤ × ℤ) (k : ℕ) → L ≡ get_or P k [] → IsReaching p (Covers L) q → IsReaching p (set_at P k) q
reaching P L p q k e r = subst (λ (M : List (ℤ × ℤ)). IsReaching p (Covers M) q) e r

-- the pages from i to before j are those that a change of the numbers from l to a may touch
pub insert_span : (whole : ℤ × ℤ) (P : List (List (ℤ × ℤ))) (p : ℤ × ℤ) (l u a : ℤ) (i j : ℕ) → l ≡ p.0 → u ≡ p.1 → (a ≡ u +ℤ pos 1) ⊎ ((a ≡ u) × (u ≡ whole.1)) → IsPageSpan P l a i j → IsInsertSpan whole P p i j
insert_span whole P p l u a i j e f above s = record {
  next = a;
  is_next = ⊎_elim (λ h. inl (omega (arith, ints, h, f))) (λ (h, k). inr (omega (arith, ints, h, f), omega (arith, ints, k, f))) above;
  span = subst (λ (x : ℤ). IsPageSpan P x a i j) e s;
}
