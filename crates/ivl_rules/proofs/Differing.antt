-- Two sets of which each number of one differs from some number of the other.
use Rattle.std.proofs.Common.{◌≡◌, ◌≢◌, ℕ, arith, inl, inr, refl, subst, sym, List, [], ◌∷◌}
use Rattle.std.specs.Prelude.{ℤ, pos, ◌+ℤ◌, ◌-ℤ◌, ◌<ℤ◌, None}
use Rattle.std.proofs.lemmas.Int.{ints, by_lt_z}
use Rattle.ivl_laws.specs.Runs.{Covers, IsRunListIn}
use Rattle.ivl_laws.specs.Sets.{HasSome, Only, SameMembers}
use Rattle.ivl_rules.specs.declared.rules.Rule.TheVariants.{Differs}
use Rattle.ivl_rules.specs.NarrowedSets.{AreLeftBy, IsForbidden, IsNot}
use Rattle.ivl_rules.specs.Rules.{HasPointAt, TakesOne}
use Rattle.ivl_rules.proofs.Points.{differing_first, differing_second}
use Rattle.ivl_rules.proofs.Windows.{one_differs}

-- runs with a member, but not with one alone, have two
pub two_members : (whole : ℤ × ℤ) (s : List (ℤ × ℤ)) → IsRunListIn whole s → HasSome (Covers s) → ¬ ((x : ℤ) × SameMembers (Covers s) (Only x))
    → (x : ℤ) × (y : ℤ) × Covers s x × Covers s y × (x <ℤ y)
two_members whole [] runs some other = absurd some.1
two_members whole (p ∷ []) runs some other =
    let le = runs.maximal.0 in
    by_lt_z p.0 p.1 (λ lt. (p.0, p.1, inl (omega (arith, ints), omega (arith, ints)), inl (omega (arith, ints), omega (arith, ints)), lt))
    (λ ge. absurd (other (
      p.0,
      λ z. (
        (λ c. elim c [ inl b ↦ (let l = b.0 in let u = b.1 in omega (arith, ints)) | inr n ↦ absurd n ]),
        (λ e. inl (omega (arith, ints, e), omega (arith, ints, e))),
      ),
    )))
two_members whole (p ∷ (q ∷ s)) runs some other =
    let le = runs.maximal.0 in
    let after = runs.maximal.1 in
    let le' = runs.maximal.2.0 in
    (p.0, q.0, inl (omega (arith, ints), omega (arith, ints)), inr (inl (omega (arith, ints), omega (arith, ints))), omega (arith, ints))

-- where no number of one is the other's
pub apart_differ : (whole : ℤ × ℤ) (X Y : List (ℤ × ℤ)) (by : ℤ) → IsRunListIn whole X → IsRunListIn whole Y → HasSome (Covers X) → HasSome (Covers Y)
    → ((v w : ℤ) → Covers X v → Covers Y w → (v +ℤ by) ≢ w) → AreLeftBy whole (IsNot by) X Y None None
apart_differ whole X Y by runs_x runs_y some_x some_y apart = record {
  first = (runs_x, λ v m. (some_y.0, some_y.1, apart v some_y.0 m some_y.1));
  second = (runs_y, λ w m. (some_x.0, some_x.1, apart some_x.0 w some_x.1 m));
}

-- where both have two
pub two_differ : (whole : ℤ × ℤ) (X Y : List (ℤ × ℤ)) (by : ℤ) → IsRunListIn whole X → IsRunListIn whole Y → HasSome (Covers X) → HasSome (Covers Y)
    → ¬ ((x : ℤ) × SameMembers (Covers X) (Only x)) → ¬ ((y : ℤ) × SameMembers (Covers Y) (Only y)) → AreLeftBy whole (IsNot by) X Y None None
two_differ whole X Y by runs_x runs_y some_x some_y many_x many_y =
    let x = two_members whole X runs_x some_x many_x in
    let y = two_members whole Y runs_y some_y many_y in
    record {
      first = (
        runs_x,
        λ v m. (
            let d = one_differs (Covers Y) y.0 y.1 (pos 0 -ℤ by) v y.2 y.3 (λ e. let lt = y.4 in omega (arith, ints, e)) in
            (d.0, d.1, λ e. let n = d.2 in n (omega (arith, ints, e)))),
      );
      second = (runs_y, λ w m. one_differs (Covers X) x.0 x.1 by w x.2 x.3 (λ e. let lt = x.4 in omega (arith, ints, e)));
    }

-- ---- the number that a single one forbids

-- a member of runs with more than one
pub has_another : (whole : ℤ × ℤ) (s : List (ℤ × ℤ)) (v : ℤ) → IsRunListIn whole s → Covers s v → ¬ ((x : ℤ) × SameMembers (Covers s) (Only x))
    → (u : ℤ) × Covers s u × (u ≢ v)
has_another whole s v runs m many =
    let t = two_members whole s runs (v, m) many in
    let d = one_differs (Covers s) t.0 t.1 (pos 0) v t.2 t.3 (λ e. let lt = t.4 in omega (arith, ints, e)) in
    (d.0, d.1, λ e. let n = d.2 in n (omega (arith, ints, e)))

-- it is what the rule takes, of the first variable or of the second
pub takes_first : (x y : ℕ) (by back : ℤ) (sets : ℕ → ℤ → Type 0) (v : ℤ) → x ≢ y → back ≡ (pos 0 -ℤ by) → IsForbidden back (sets x) (sets y) v
    → TakesOne (Differs x y by) sets x v
takes_first x y by back sets v n is (m, (u, k, ne), only) = record {
  named = inl refl;
  member = m;
  left = λ j z. (
    (λ h. (
      h.kept,
      λ e f.
          let p = (differing_first x y by sets n z (subst (λ i. sets i z) e h.kept)).1 (subst (λ i. HasPointAt (Differs x y by) sets i z) e (h.supported (inl e))) in
          let w = (only p.0).0 p.1 in
          let differs = p.2 in
          differs (omega (arith, ints, f, w, is)),
    )),
    (λ h. record {
      kept = h.0;
      supported = λ named. elim named [
        | inl e ↦ subst (λ i. HasPointAt (Differs x y by) sets i z) (sym e) (at_x j z e h)
        | inr (inl e) ↦ subst (λ i. HasPointAt (Differs x y by) sets i z) (sym e) (at_y z (subst (λ i. sets i z) e h.0))
        | inr (inr e) ↦ subst (λ i. HasPointAt (Differs x y by) sets i z) (sym e) (at_y z (subst (λ i. sets i z) e h.0))
      ];
    }),
  );
}
  where
    at_x : (j : ℕ) (z : ℤ) (e : j ≡ x) → sets j z × (j ≡ x → z ≢ v) → HasPointAt (Differs x y by) sets x z
    at_x j z e h = (differing_first x y by sets n z (subst (λ i. sets i z) e h.0)).0
        (v -ℤ back, (only (v -ℤ back)).1 refl, λ f. h.1 e (omega (arith, ints, f, is)))

    at_y : (z : ℤ) → sets y z → HasPointAt (Differs x y by) sets y z
    at_y z h = (differing_second x y by sets n z h).0 (u, k, λ f. let w = (only z).0 h in ne (omega (arith, ints, f, w, is)))

pub takes_second : (x y : ℕ) (by shift : ℤ) (sets : ℕ → ℤ → Type 0) (v : ℤ) → x ≢ y → shift ≡ by → IsForbidden shift (sets y) (sets x) v
    → TakesOne (Differs x y by) sets y v
takes_second x y by shift sets v n is (m, (u, k, ne), only) = record {
  named = inr (inl refl);
  member = m;
  left = λ j z. (
    (λ h. (
      h.kept,
      λ e f.
          let p = (differing_second x y by sets n z (subst (λ i. sets i z) e h.kept)).1 (subst (λ i. HasPointAt (Differs x y by) sets i z) e (h.supported (inr (inl e)))) in
          let w = (only p.0).0 p.1 in
          let differs = p.2 in
          differs (omega (arith, ints, f, w, is)),
    )),
    (λ h. record {
      kept = h.0;
      supported = λ named. elim named [
        | inl e ↦ subst (λ i. HasPointAt (Differs x y by) sets i z) (sym e) (at_x z (subst (λ i. sets i z) e h.0))
        | inr (inl e) ↦ subst (λ i. HasPointAt (Differs x y by) sets i z) (sym e) (at_y j z e h)
        | inr (inr e) ↦ subst (λ i. HasPointAt (Differs x y by) sets i z) (sym e) (at_y j z e h)
      ];
    }),
  );
}
  where
    at_x : (z : ℤ) → sets x z → HasPointAt (Differs x y by) sets x z
    at_x z h = (differing_first x y by sets n z h).0 (u, k, λ f. let w = (only z).0 h in ne (omega (arith, ints, f, w, is)))

    at_y : (j : ℕ) (z : ℤ) (e : j ≡ y) → sets j z × (j ≡ y → z ≢ v) → HasPointAt (Differs x y by) sets y z
    at_y j z e h = (differing_second x y by sets n z (subst (λ i. sets i z) e h.0)).0
        (v -ℤ shift, (only (v -ℤ shift)).1 refl, λ f. h.1 e (omega (arith, ints, f, is)))
