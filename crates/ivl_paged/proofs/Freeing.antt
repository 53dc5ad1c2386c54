-- The numbers that pages leave free, page by page.
use Rattle.std.proofs.Common.{◌≡◌, ⊎_elim, inl, inr, ℕ, ◌+◌, ◌<◌, ◌≤◌, ℤ, pos, ◌≤ℤ◌, List, [], ◌∷◌, ◌++◌, get_or, length, sym, ap, subst, ◌∙◌, append-nil, arith}
use Rattle.std.specs.Prelude.{◌<ℤ◌}
use Rattle.std.proofs.lemmas.Int.{ints, by_lt_z}
use Rattle.ivl_laws.specs.Families.{set_at}
use Rattle.ivl_laws.specs.Sets.{Complement, IsBetween, Without}
use Rattle.ivl_laws.specs.Runs.{Covers, IsMaximal, IsRunListIn, IsRunsOf}
use Rattle.ivl_laws.proofs.Ranges.{IsRunsOf-one}
use Rattle.ivl_laws.proofs.SetLaws.{IsRunsOf-same}
use Rattle.ivl_places.specs.Neighbours.{IsLeast}
use Rattle.ivl_walks.specs.Order.{IsBelow}
use Rattle.ivl_paged.specs.Gaps.{AreGaps, IsAfter, IsBefore, IsLeftBefore, IsGapPage}
use Rattle.ivl_paged.specs.Pages.{flattened}
use Rattle.ivl_paged.proofs.Combining.{appended}
use Rattle.ivl_paged.proofs.Paging.{covers_page, flattened-append, order_of, page_of, pages_ascend}
use Rattle.ivl_paged.proofs.Reading.{beyond}

-- v is the least member of page i, and y is in that page or in one after it
least_of_rest : (P : List (List (ℤ × ℤ))) (i j : ℕ) (v y : ℤ) → IsMaximal (flattened P) → IsLeast v (set_at P i) → i ≤ j → set_at P j y → v ≤ℤ y
least_of_rest P i j v y m l le c = ⊎_elim
    (λ lt. let far = pages_ascend P i j v y m lt l.0 c in omega (arith, ints, far))
    (λ ge. l.1 y (subst (λ (k : ℕ). set_at P k y) (omega (arith, le, ge)) c))
    (order_of i j)

-- a page of the runs K behind the others
pub page_behind : (P : List (List (ℤ × ℤ))) (K L : List (ℤ × ℤ)) → L ≡ K → flattened (P ++ L ∷ []) ≡ flattened P ++ K
page_behind P K L e = flattened-append P (L ∷ []) ∙ ap (λ (M : List (ℤ × ℤ)). flattened P ++ M) (append-nil L ∙ e)

-- L is page i, whose gaps A are cut twice
pub gap_page : (whole : ℤ × ℤ) (P : List (List (ℤ × ℤ))) (i : ℕ) (L A B K : List (ℤ × ℤ)) (before after : ℤ × ℤ) → L ≡ get_or P i [] → IsRunsOf A (Complement whole (Covers L)) → IsRunsOf B (Without (Covers A) (IsBetween before)) →
    IsRunsOf K (Without (Covers B) (IsBetween after)) → IsBefore whole P i before → IsAfter whole P i after → IsGapPage whole P i K
gap_page whole P i L A B K before after e a b k f l = record {
  before = before;
  after = after;
  is_before = f;
  is_after = l;
  members = subst (λ (M : List (ℤ × ℤ)). IsRunsOf K (Without (Without (Complement whole (Covers M)) (IsBetween before)) (IsBetween after))) e (record {
    maximal = k.maximal;
    members = λ z. (
      (λ c. let (d, out) = (k.members z).0 c in let (x, free) = (b.members z).0 d in (((a.members z).0 x, free), out)),
      (λ (d, out). (k.members z).1 ((b.members z).1 ((a.members z).1 d.0, d.1), out)),
    );
  });
}

-- K are the gaps of page i
module _ (whole : ℤ × ℤ) (P : List (List (ℤ × ℤ))) (i : ℕ) (K : List (ℤ × ℤ)) (r : IsRunListIn whole (flattened P)) (g : IsGapPage whole P i K) where
  in_range : (z : ℤ) → Covers K z → IsBetween whole z
  in_range z c = ((g.members.members z).0 c).0.0.0

  under_next : (z : ℤ) → Covers K z → (j : ℕ) (y : ℤ) → i + 1 ≤ j → set_at P j y → z <ℤ y
  under_next z c j y le d = ⊎_elim
      (λ last. absurd (beyond P j y (omega (arith, le, last.0)) d))
      (λ (v, least, is). by_lt_z z v
      (λ lt. let low = least_of_rest P (i + 1) j v y r.maximal least le d in omega (arith, ints, lt, low))
      (λ ge. absurd (((g.members.members z).0 c).1 (subst (λ (p : ℤ × ℤ). IsBetween p z) (sym is) (ge, (in_range z c).1)))))
      g.is_after

  is_after_none : (z : ℤ) → IsLeftBefore whole P (i + 1) z → ¬ (IsBetween g.after z)
  is_after_none z h b = ⊎_elim
      (λ last. last.1 z b)
      (λ (v, least, is). let low = (subst (λ (p : ℤ × ℤ). IsBetween p z) is b).0 in let lt = h.1 (i + 1) v (omega arith) least.0 in omega (arith, ints, low, lt))
      g.is_after

  -- where no page before page i has z
  is_gap : (z : ℤ) → Covers K z → ((j : ℕ) → j < i → ¬ (set_at P j z)) → IsLeftBefore whole P (i + 1) z
  is_gap z c none = (
    (
      in_range z c,
      λ d. let (j, h, s) = page_of P z d in
          ⊎_elim (λ lt. none j lt s)
          (λ ge. ⊎_elim
          (λ more. let lt = under_next z c j z (omega (arith, more)) s in omega (arith, ints, lt))
          (λ le. ((g.members.members z).0 c).0.0.1 (subst (λ (k : ℕ). set_at P k z) (omega (arith, le, ge)) s))
          (order_of i j))
          (order_of j i),
    ),
    under_next z c,
  )

  in_gaps : (z : ℤ) → IsLeftBefore whole P (i + 1) z → ¬ (IsBetween g.before z) → Covers K z
  in_gaps z h out = (g.members.members z).1 (((h.0.0, λ d. h.0.1 (covers_page P i z d)), out), is_after_none z h)

  first_gaps : i ≡ 0 → IsRunsOf K (IsLeftBefore whole P (i + 1))
  first_gaps e = record {
    maximal = g.members.maximal;
    members = λ z. (
      (λ c. is_gap z c (λ j lt d. omega (arith, lt, e))),
      (λ h. in_gaps z h (λ b. ⊎_elim (λ f. f.1 z b) (λ (v, more, least, is). omega (arith, more, e)) g.is_before)),
    );
  }

  -- G are the gaps before page i, whose least member is v
  module _ (G : List (ℤ × ℤ)) (v : ℤ) (a : IsRunsOf G (IsLeftBefore whole P i)) (least : IsLeast v (set_at P i)) (is : g.before ≡ (whole.0, v)) where
    over : (z : ℤ) → Covers K z → v <ℤ z
    over z c = by_lt_z v z (λ lt. lt) (λ le. absurd (((g.members.members z).0 c).0.1 (subst (λ (p : ℤ × ℤ). IsBetween p z) (sym is) ((in_range z c).0, le))))

    gaps_apart : IsBelow (pos 2) (Covers G) (Covers K)
    gaps_apart x y c d = let lt = ((a.members x).0 c).1 i v (omega arith) least.0 in let more = over y d in omega (arith, ints, lt, more)

    next_gaps : IsRunsOf (G ++ K) (IsLeftBefore whole P (i + 1))
    next_gaps =
        let all = appended G K a.maximal g.members.maximal gaps_apart in record {
          maximal = all.maximal;
          members = λ z. (
            (λ c. ⊎_elim
                (λ d. let h = (a.members z).0 d in (h.0, λ j y le s. h.1 j y (omega (arith, le)) s))
                (λ d. is_gap z d (λ j lt s. let far = pages_ascend P j i z v r.maximal lt s least.0 in let more = over z d in omega (arith, ints, far, more)))
                ((all.members z).0 c)),
            (λ h. (all.members z).1 (by_lt_z z v
                (λ lt. inl ((a.members z).1 (h.0, λ j y le s. let low = least_of_rest P i j v y r.maximal least le s in omega (arith, ints, lt, low))))
                (λ ge. inr (in_gaps z h (λ b.
                let up = (subst (λ (p : ℤ × ℤ). IsBetween p z) is b).1 in
                h.0.1 (covers_page P i z (subst (set_at P i) (omega (arith, ints, ge, up)) least.0))))))),
          );
        }

  pub more_gaps : (G : List (ℤ × ℤ)) → AreGaps whole P i G → AreGaps whole P (i + 1) (G ++ K)
  more_gaps G a = inr (
    omega arith,
    ⊎_elim
        (λ (e, none). subst (λ (M : List (ℤ × ℤ)). IsRunsOf (M ++ K) (IsLeftBefore whole P (i + 1))) (sym none) (first_gaps e))
        (λ (h, b). ⊎_elim (λ f. absurd (omega (arith, h, f.0))) (λ (v, more, least, is). next_gaps G v b least is) g.is_before)
        a,
  )

pub all_gaps : (whole : ℤ × ℤ) (P : List (List (ℤ × ℤ))) (i : ℕ) (G : List (ℤ × ℤ)) → 0 < length P → length P ≤ i → AreGaps whole P i G → IsRunsOf G (Complement whole (Covers (flattened P)))
all_gaps whole P i G some end a = ⊎_elim
    (λ f. absurd (omega (arith, some, end, f.0)))
    (λ (h, b). IsRunsOf-same (IsLeftBefore whole P i) (Complement whole (Covers (flattened P))) G (λ z. ((λ k. k.0), (λ k. (k, λ j y le s. absurd (beyond P j y (omega (arith, end, le)) s))))) b)
    a

-- ---- the whole range

-- no page has a number
pub gaps_of_none : (whole : ℤ × ℤ) (P : List (List (ℤ × ℤ))) (G : List (ℤ × ℤ)) → length P ≡ 0 → whole.0 ≤ℤ whole.1 → G ≡ whole ∷ [] → IsRunsOf G (Complement whole (Covers (flattened P)))
gaps_of_none whole P G none o e = subst (λ (L : List (ℤ × ℤ)). IsRunsOf L (Complement whole (Covers (flattened P)))) (sym e)
    (IsRunsOf-same (IsBetween whole) (Complement whole (Covers (flattened P))) (whole ∷ [])
    (λ z. ((λ b. (b, λ c. let (k, h, s) = page_of P z c in omega (arith, h, none))), (λ c. c.0))) (IsRunsOf-one whole o))
