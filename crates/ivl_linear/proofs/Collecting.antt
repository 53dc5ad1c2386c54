-- What is left of the domains: collected term by term, and put in place of them one after another.
use Rattle.std.proofs.Common.{◌≡◌, ◌≢◌, ◌↔◌, ◌⊎◌, inl, inr, ℕ, ◌<◌, ◌≤◌, ℤ, List, [], ◌∷◌, ◌++◌, drop, get_or, length, refl, sym, subst, ◌∙◌, arith, Bool, true, false}
use Rattle.std.proofs.lemmas.Bool.{cases_eq, false≢true}
use Rattle.std.proofs.lemmas.List.{get_or-set_other, drop_all, get_or-set_same, length-set}
use Rattle.std.specs.Prelude.{Option, Some, None, slice_set}
use Rattle.ivl_laws.specs.Families.{set_at}
use Rattle.ivl_laws.specs.Runs.{Covers}
use Rattle.ivl_linear.specs.declared.linear.Term.{Term}
use Rattle.ivl_linear.specs.declared.linear.Relation.{Relation}
use Rattle.ivl_linear.specs.declared.linear.Relation.TheVariants.{AtMost, AtLeast, Differs, Tells}
use Rattle.ivl_linear.specs.Linear.{HasLinearPointAt, HasTermOf, HasTermsBelow, LinearNames, NamesBelow, NarrowedByLinear}
use Rattle.ivl_linear.specs.Ends.{IsRestOf}
use Rattle.ivl_linear.specs.Rests.{AllRests, AreRestsOf, HasRestOf, IsRestAt, with_rest}
use Rattle.ivl_linear.proofs.Rests.{AllRests-front, AllRests-last, AllRests-push, HasRestOf-last, HasRestOf-push, HasRestOf-split}

-- ---- collected

pub rests_none : (terms : List Term) (relation : Relation) (sets : List (List (ℤ × ℤ))) → AreRestsOf terms relation sets (λ i. HasTermOf terms i × (¬ (HasTermOf terms i))) []
rests_none terms relation sets = record { all = tt; others = (λ i s. absurd (s.1 s.0)) }

-- what is left of the domain of one more variable
pub rests_more : (terms : List Term) (relation : Relation) (sets : List (List (ℤ × ℤ))) (seen more : ℕ → Type 0) (x : ℕ) (rest : Option (List (ℤ × ℤ))) (rests : List (ℕ × List (ℤ × ℤ)))
    → x < length sets → LinearNames terms relation x → ((i : ℕ) → more i → (i ≡ x) ⊎ seen i) → IsRestOf (get_or sets x []) (HasLinearPointAt terms relation (set_at sets) x) rest
    → AreRestsOf terms relation sets seen rests → AreRestsOf terms relation sets more (with_rest rests x rest)
rests_more terms relation sets seen more x None rests known named split kept r = record {
  all = r.all;
  others = (λ i m. elim (split i m) [
    | inl e ↦ inr (subst (λ j. (v : ℤ) → set_at sets j v → HasLinearPointAt terms relation (set_at sets) j v) (sym e) kept)
    | inr s ↦ r.others i s
  ]);
}
rests_more terms relation sets seen more x (Some L) rests known named split left r = record {
  all = AllRests-push (IsRestAt terms relation sets) rests (x, L) r.all (record { present = known; named = named; members = left.0; lost = left.1 });
  others = (λ i m. elim (split i m) [
    | inl e ↦ inl (HasRestOf-last rests (x, L) i e)
    | inr s ↦ elim (r.others i s) [ inl h ↦ inl (HasRestOf-push rests (x, L) i h) | inr k ↦ inr k ]
  ]);
}

decide : (i j : ℕ) → (i ≡ j) ⊎ (i ≢ j)
decide i j = cases_eq i j

-- a variable that is not to come is that of the next term, or is not to come before it
pub seen_next : (terms : List Term) (t : Term) (rest : List Term) (i : ℕ) → HasTermOf terms i × (¬ (HasTermOf rest i)) → (i ≡ t.variable) ⊎ (HasTermOf terms i × (¬ (HasTermOf (t ∷ rest) i)))
seen_next terms t rest i s = by_place (decide i t.variable)
  where
    by_place : (i ≡ t.variable) ⊎ (i ≢ t.variable) → (i ≡ t.variable) ⊎ (HasTermOf terms i × (¬ (HasTermOf (t ∷ rest) i)))
    by_place (inl e) = inl e
    by_place (inr ne) = inr (s.0, λ h. elim h [ inl e ↦ ne e | inr r ↦ s.1 r ])

-- the variable of each term is below the count
pub below_names : (count : ℕ) (terms : List Term) (relation : Relation) → NamesBelow count terms relation → HasTermsBelow count terms
below_names count terms (AtMost bound) h = h
below_names count terms (AtLeast bound) h = h
below_names count terms (Differs number) h = h
below_names count terms (Tells variable bound) h = h.0

-- where the rule names the variables of the terms alone
pub names_terms : (terms : List Term) (relation r : Relation) (sets : List (List (ℤ × ℤ))) (rests : List (ℕ × List (ℤ × ℤ))) → relation ≡ r → ((i : ℕ) → LinearNames terms r i → HasTermOf terms i)
    → AreRestsOf terms relation sets (HasTermOf terms) rests → AreRestsOf terms relation sets (LinearNames terms relation) rests
names_terms terms relation r sets rests is f a = record { all = a.all; others = (λ i n. a.others i (f i (subst (λ q. LinearNames terms q i) is n))) }

-- once all terms have come
pub rests_all : (terms : List Term) (relation : Relation) (sets : List (List (ℤ × ℤ))) (k : ℕ) (rests : List (ℕ × List (ℤ × ℤ))) → length terms ≤ k
    → AreRestsOf terms relation sets (λ i. HasTermOf terms i × (¬ (HasTermOf (drop k terms) i))) rests → AreRestsOf terms relation sets (HasTermOf terms) rests
rests_all terms relation sets k rests h r = record { all = r.all; others = (λ i n. r.others i (n, λ later. subst (λ l. HasTermOf l i) (drop_all k terms h) later)) }

-- ---- put

-- what a loop over the list knows of the domains so far
pub record PutSoFar (terms : List Term) (relation : Relation) (sets : List (List (ℤ × ℤ))) (rests : List (ℕ × List (ℤ × ℤ))) (now : List (List (ℤ × ℤ))) : Type 0 where
  pub count : length now ≡ length sets
  pub all : AllRests (IsRestAt terms relation sets) rests
  pub others : (i : ℕ) → HasRestOf rests i ⊎ ((v : ℤ) → set_at now i v ↔ NarrowedByLinear terms relation (set_at sets) i v)

first_or_not : (t : Term) (rest : List Term) (i : ℕ) → (i ≡ t.variable) ⊎ (i ≢ t.variable) → HasTermOf rest i ⊎ (¬ (HasTermOf rest i)) → HasTermOf (t ∷ rest) i ⊎ (¬ (HasTermOf (t ∷ rest) i))
first_or_not t rest i (inl e) later = inl (inl e)
first_or_not t rest i (inr ne) (inl h) = inl (inr h)
first_or_not t rest i (inr ne) (inr n) = inr (λ h. elim h [ inl e ↦ ne e | inr r ↦ n r ])

named_or_not : (terms : List Term) (i : ℕ) → HasTermOf terms i ⊎ (¬ (HasTermOf terms i))
named_or_not [] i = inr (λ h. h)
named_or_not (t ∷ rest) i = first_or_not t rest i (decide i t.variable) (named_or_not rest i)

names_or_not : (terms : List Term) (relation : Relation) (i : ℕ) → LinearNames terms relation i ⊎ (¬ (LinearNames terms relation i))
names_or_not terms (AtMost bound) i = named_or_not terms i
names_or_not terms (AtLeast bound) i = named_or_not terms i
names_or_not terms (Differs number) i = named_or_not terms i
names_or_not terms (Tells variable bound) i = by_place (decide i variable)
  where
    by_place : (i ≡ variable) ⊎ (i ≢ variable) → ((i ≡ variable) ⊎ HasTermOf terms i) ⊎ (¬ ((i ≡ variable) ⊎ HasTermOf terms i))
    by_place (inl e) = inl (inl e)
    by_place (inr ne) = elim (named_or_not terms i) [ inl h ↦ inl (inr h) | inr n ↦ inr (λ h. elim h [ inl e ↦ ne e | inr r ↦ n r ]) ]

pub put_none : (terms : List Term) (relation : Relation) (sets : List (List (ℤ × ℤ))) (rests : List (ℕ × List (ℤ × ℤ))) → AreRestsOf terms relation sets (LinearNames terms relation) rests
    → PutSoFar terms relation sets rests sets
put_none terms relation sets rests r = record { count = refl; all = r.all; others = (λ i. by_name i (names_or_not terms relation i)) }
  where
    by_name : (i : ℕ) → LinearNames terms relation i ⊎ (¬ (LinearNames terms relation i)) → HasRestOf rests i ⊎ ((v : ℤ) → set_at sets i v ↔ NarrowedByLinear terms relation (set_at sets) i v)
    by_name i (inl named) = elim (r.others i named) [
      | inl h ↦ inl h
      | inr kept ↦ inr (λ v. ((λ m. record { kept = m; supported = (λ _. kept v m) }), (λ n. n.kept)))
    ]
    by_name i (inr not) = inr (λ v. ((λ m. record { kept = m; supported = (λ named. absurd (not named)) }), (λ n. n.kept)))

-- a list of sets with another set in one place
at_same : (sets : List (List (ℤ × ℤ))) (x : ℕ) (L : List (ℤ × ℤ)) (v : ℤ) → x < length sets → set_at (slice_set sets x L) x v ↔ Covers L v
at_same sets x L v h = let e : get_or (slice_set sets x L) x [] ≡ L = get_or-set_same sets x L [] h in (λ c. subst (λ (K : List (ℤ × ℤ)). Covers K v) e c, λ c. subst (λ (K : List (ℤ × ℤ)). Covers K v) (sym e) c)

at_other : (sets : List (List (ℤ × ℤ))) (x j : ℕ) (L : List (ℤ × ℤ)) (v : ℤ) → j ≢ x → set_at (slice_set sets x L) j v ↔ set_at sets j v
at_other sets x j L v n = let e : get_or (slice_set sets x L) j [] ≡ get_or sets j [] = get_or-set_other sets x j L [] n in (λ c. subst (λ (K : List (ℤ × ℤ)). Covers K v) e c, λ c. subst (λ (K : List (ℤ × ℤ)). Covers K v) (sym e) c)

pub put_present : (terms : List Term) (relation : Relation) (sets : List (List (ℤ × ℤ))) (all front : List (ℕ × List (ℤ × ℤ))) (e : ℕ × List (ℤ × ℤ)) (now : List (List (ℤ × ℤ)))
    → all ≡ front ++ e ∷ [] → PutSoFar terms relation sets all now → e.0 < length now
put_present terms relation sets all front e now is s =
    let one : IsRestAt terms relation sets e.0 e.1 = AllRests-last (IsRestAt terms relation sets) front e (subst (AllRests (IsRestAt terms relation sets)) is s.all) in
    subst (λ n. e.0 < n) (sym s.count) one.present

pub put_more : (terms : List Term) (relation : Relation) (sets : List (List (ℤ × ℤ))) (all front : List (ℕ × List (ℤ × ℤ))) (e : ℕ × List (ℤ × ℤ)) (now : List (List (ℤ × ℤ)))
    → all ≡ front ++ e ∷ [] → PutSoFar terms relation sets all now → PutSoFar terms relation sets front (slice_set now e.0 e.1)
put_more terms relation sets all front e now is s = record {
  count = length-set now e.0 e.1 ∙ s.count;
  all = AllRests-front (IsRestAt terms relation sets) front e whole;
  others = (λ j. by_place j (decide j e.0));
}
  where
    whole : AllRests (IsRestAt terms relation sets) (front ++ e ∷ [])
    whole = subst (AllRests (IsRestAt terms relation sets)) is s.all

    one : IsRestAt terms relation sets e.0 e.1
    one = AllRests-last (IsRestAt terms relation sets) front e whole

    known : e.0 < length now
    known = put_present terms relation sets all front e now is s

    at_the_place : (v : ℤ) → set_at (slice_set now e.0 e.1) e.0 v ↔ NarrowedByLinear terms relation (set_at sets) e.0 v
    at_the_place v = let same = at_same now e.0 e.1 v known in (
      (λ h. let k = (one.members v).0 (same.0 h) in record { kept = k.0; supported = (λ _. k.1) }),
      (λ n. same.1 ((one.members v).1 (n.kept, n.supported one.named))),
    )

    by_place : (j : ℕ) → (j ≡ e.0) ⊎ (j ≢ e.0) → HasRestOf front j ⊎ ((v : ℤ) → set_at (slice_set now e.0 e.1) j v ↔ NarrowedByLinear terms relation (set_at sets) j v)
    by_place j (inl f) = inr (λ v. subst (λ i. set_at (slice_set now e.0 e.1) i v ↔ NarrowedByLinear terms relation (set_at sets) i v) (sym f) (at_the_place v))
    by_place j (inr ne) = elim (s.others j) [
      | inl h ↦ elim (HasRestOf-split front e j (subst (λ l. HasRestOf l j) is h)) [ inl k ↦ inl k | inr f ↦ absurd (ne f) ]
      | inr k ↦ inr (λ v. let same = at_other now e.0 j e.1 v ne in ((λ h. (k v).0 (same.0 h)), (λ n. same.1 ((k v).1 n))))
    ]

pub put_all : (terms : List Term) (relation : Relation) (sets : List (List (ℤ × ℤ))) (rests : List (ℕ × List (ℤ × ℤ))) (now : List (List (ℤ × ℤ)))
    → rests ≡ [] → PutSoFar terms relation sets rests now → (i : ℕ) (v : ℤ) → set_at now i v ↔ NarrowedByLinear terms relation (set_at sets) i v
put_all terms relation sets rests now none s i = elim (s.others i) [ inl h ↦ absurd (subst (λ l. HasRestOf l i) none h) | inr k ↦ k ]

-- ---- whether a member was lost

pub no_rest : (rests : List (ℕ × List (ℤ × ℤ))) → length rests ≡ 0 → rests ≡ []
no_rest [] h = refl
no_rest (e ∷ rests) h = absurd (omega arith)

-- where nothing was collected, narrowing takes nothing
pub none_left : (terms : List Term) (relation : Relation) (sets : List (List (ℤ × ℤ))) (rests : List (ℕ × List (ℤ × ℤ))) → length rests ≡ 0 → AreRestsOf terms relation sets (LinearNames terms relation) rests
    → (i : ℕ) (v : ℤ) → set_at sets i v ↔ NarrowedByLinear terms relation (set_at sets) i v
none_left terms relation sets rests none r = put_all terms relation sets rests sets (no_rest rests none) (put_none terms relation sets rests r)

pub some_lost : (terms : List Term) (relation : Relation) (sets : List (List (ℤ × ℤ))) (now : ℕ → ℤ → Type 0) (rests : List (ℕ × List (ℤ × ℤ))) → AreRestsOf terms relation sets (LinearNames terms relation) rests
    → ((i : ℕ) (v : ℤ) → now i v ↔ NarrowedByLinear terms relation (set_at sets) i v) → ((i : ℕ) (v : ℤ) → set_at sets i v → now i v) → length rests ≡ 0
some_lost terms relation sets now [] r n kept = refl
some_lost terms relation sets now (e ∷ rests) r n kept = absurd (r.all.0.lost (λ v m. ((n e.0 v).0 (kept e.0 v m)).supported r.all.0.named))

-- without a domain there is no member
pub no_domain : (sets : List (List (ℤ × ℤ))) (i : ℕ) (v : ℤ) → length sets ≡ 0 → ¬ (set_at sets i v)
no_domain [] i v h m = m
no_domain (s ∷ sets) i v h m = absurd (omega arith)
