-- What a search has found of the solutions, and which of them are left.
use Rattle.std.proofs.Common.{◌≡◌, ◌≢◌, suc, ◌⊎◌, inl, inr, sym, subst, arith, refl, List, [], ◌∷◌, ◌++◌}
use Rattle.std.specs.Prelude.{ℤ, ◌↔◌, All, Contains}
use Rattle.std.proofs.lemmas.List.Elements.{All-nil, All-cons, All-append, All-contains, All-weaker, Contains-append_left, Contains-append_right, Contains-append_cases}
use Rattle.ivl_search.specs.declared.search.End.{End}
use Rattle.ivl_search.specs.declared.search.End.TheVariants.{All as AllFound}
use Rattle.ivl_search.specs.Points.{EachOnce, Finds}

-- the points found so far, and the predicate of the solutions that are left
pub record IsLeft (solves : List ℤ → Type 0) (found : List (List ℤ)) (rest : List ℤ → Type 0) : Type 0 where
  pub sound : All solves found
  pub once : EachOnce found
  pub inward : (point : List ℤ) → rest point → solves point
  pub apart : (point : List ℤ) → Contains found point → rest point → ⊥
  pub cases : (point : List ℤ) → solves point → Contains found point ⊎ rest point

pub Contains-none : (point : List ℤ) → Contains [] point → ⊥
Contains-none point c = let lt = c.1 in absurd (omega (arith, lt))

Contains-head : (point : List ℤ) (points : List (List ℤ)) → Contains (point ∷ points) point
Contains-head point points = (0, omega arith, refl)

Contains-tail : (q point : List ℤ) (points : List (List ℤ)) → Contains points point → Contains (q ∷ points) point
Contains-tail q point points c = let lt = c.1 in (suc c.0, omega (arith, lt), c.2)

once-append : (xs ys : List (List ℤ)) → EachOnce xs → EachOnce ys → ((point : List ℤ) → Contains xs point → Contains ys point → ⊥) → EachOnce (xs ++ ys)
once-append [] ys a b apart = b
once-append (x ∷ xs) ys a b apart = (
  (λ c. elim (Contains-append_cases xs ys x c) [ inl k ↦ a.0 k | inr k ↦ apart x (Contains-head x xs) k ]),
  once-append xs ys a.1 b (λ point k l. apart point (Contains-tail x point xs k) l),
)

-- at first all are left
pub left_at_first : (solves : List ℤ → Type 0) → IsLeft solves [] solves
left_at_first solves = record {
  sound = All-nil solves;
  once = tt;
  inward = λ point h. h;
  apart = λ point c h. Contains-none point c;
  cases = λ point h. inr h;
}

-- narrowing loses no solution
pub left_after : (solves rest less : List ℤ → Type 0) (found : List (List ℤ)) → IsLeft solves found rest → ((point : List ℤ) → rest point ↔ less point) → IsLeft solves found less
left_after solves rest less found l same = record {
  sound = l.sound;
  once = l.once;
  inward = λ point h. l.inward point ((same point).1 h);
  apart = λ point c h. l.apart point c ((same point).1 h);
  cases = λ point h. elim (l.cases point h) [ inl c ↦ inl c | inr r ↦ inr ((same point).0 r) ];
}

-- what is found in a part of the rest was not found before
found_more : (solves rest part : List ℤ → Type 0) (found more : List (List ℤ)) → IsLeft solves found rest → All part more → EachOnce more
    → ((point : List ℤ) → part point → rest point) → All solves (found ++ more) × EachOnce (found ++ more)
found_more solves rest part found more l sound once within = (
  All-append solves found more l.sound (All-weaker part solves (λ point h. l.inward point (within point h)) more sound),
  once-append found more l.once once (λ point c d. l.apart point c (within point (All-contains part more point sound d))),
)

-- where one part of the rest is searched to its end, the other is left
pub left_part : (solves rest low high : List ℤ → Type 0) (found more : List (List ℤ)) → IsLeft solves found rest → Finds low more AllFound
    → ((point : List ℤ) → low point → rest point) → ((point : List ℤ) → high point → rest point) → ((point : List ℤ) → low point → high point → ⊥)
    → ((point : List ℤ) → rest point → low point ⊎ high point) → IsLeft solves (found ++ more) high
left_part solves rest low high found more l f in_low in_high apart cases = let both = found_more solves rest low found more l f.sound f.once in_low in record {
  sound = both.0;
  once = both.1;
  inward = λ point h. l.inward point (in_high point h);
  apart = λ point c h. elim (Contains-append_cases found more point c) [
    | inl k ↦ l.apart point k (in_high point h)
    | inr k ↦ apart point (All-contains low more point f.sound k) h
  ];
  cases = λ point h. elim (l.cases point h) [
    | inl c ↦ inl (Contains-append_left found more point c)
    | inr r ↦ elim (cases point r) [ inl k ↦ inl (Contains-append_right found more point (f.complete refl point k)) | inr k ↦ inr k ]
  ];
}

-- it may stop at any time
pub stopped : (solves rest : List ℤ → Type 0) (found : List (List ℤ)) (end : End) → IsLeft solves found rest → end ≢ AllFound → Finds solves found end
stopped solves rest found end l ne = record { sound = l.sound; once = l.once; complete = λ e. absurd (ne e) }

-- all is found where all of the rest is
pub all_found : (solves rest : List ℤ → Type 0) (found more : List (List ℤ)) → IsLeft solves found rest → Finds rest more AllFound → Finds solves (found ++ more) AllFound
all_found solves rest found more l f = let both = found_more solves rest rest found more l f.sound f.once (λ point r. r) in record {
  sound = both.0;
  once = both.1;
  complete = λ e point s. elim (l.cases point s) [ inl c ↦ Contains-append_left found more point c | inr r ↦ Contains-append_right found more point (f.complete refl point r) ];
}

-- where there is none, none is found
pub finds_none : (solves : List ℤ → Type 0) → ((point : List ℤ) → solves point → ⊥) → Finds solves [] AllFound
finds_none solves none = record { sound = All-nil solves; once = tt; complete = λ e point s. absurd (none point s) }

-- where there is one, it is found
pub finds_one : (solves : List ℤ → Type 0) (one : List ℤ) → solves one → ((point : List ℤ) → solves point → point ≡ one) → Finds solves (one ∷ []) AllFound
finds_one solves one s only = record {
  sound = All-cons solves one [] s (All-nil solves);
  once = ((λ c. Contains-none one c), tt);
  complete = λ e point h. subst (Contains (one ∷ [])) (sym (only point h)) (Contains-head one []);
}
