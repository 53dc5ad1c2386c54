-- The texts of runs of days, one after the other.
use Rattle.std.proofs.Common.{◌≡◌, ℕ, ℤ, ◌≤ℤ◌, List, [], ◌∷◌, ◌++◌, Option, inl, inr, refl, sym, subst, append_assoc, append-nil, arith, length}
use Rattle.std.proofs.lemmas.Int.{ints}
use Rattle.std.specs.Prelude.{codes}
use Rattle.std.specs.Io.KnownBytes.{Appends}
use Rattle.std.proofs.KnownBytes.{Appends-nil, Appends-trans}
use Rattle.jiff.specs.Words.{IsEpochDay}
use Rattle.ivl_laws.specs.Sets.{IsSubset}
use Rattle.ivl_laws.specs.Runs.{Covers, IsMaximal}
use Rattle.ivl_lines.specs.Lines.{with_newline}
use Rattle.ivl_calendar.specs.Days.{IsSpanText, AreMoreSpans, AreSpansText}

-- runs of days of the calendar
pub record AreDays (runs : List (ℤ × ℤ)) : Type 0 where
  pub maximal : IsMaximal runs
  pub dates : IsSubset (Covers runs) IsEpochDay

pub itself : (z : ℤ) → z ≤ℤ z
itself z = omega (arith, ints)

pub no_items : {A : Type 0} (xs : List A) → length xs ≡ 0 → xs ≡ []
no_items [] h = refl
no_items (x ∷ xs) h = absurd (omega (arith, h))

-- the days of the first run, and those of the others
pub first_days : (runs : List (ℤ × ℤ)) (run : ℤ × ℤ) (others : List (ℤ × ℤ)) → runs ≡ run ∷ others → AreDays runs → (run.0 ≤ℤ run.1) × IsEpochDay run.0 × IsEpochDay run.1 × AreDays others
first_days runs run others is h =
    let all : AreDays (run ∷ others) = subst (λ (L : List (ℤ × ℤ)). AreDays L) is h in
    let order : run.0 ≤ℤ run.1 = all.maximal.0 in (
      order,
      all.dates run.0 (inl (itself run.0, order)),
      all.dates run.1 (inl (order, itself run.1)),
      record { maximal = all.maximal.2; dates = λ z m. all.dates z (inr m) },
    )

-- what is written, and then the text of the runs that are left, is the text of all
abbrev pub Leaves : List (ℤ × ℤ) → Option (List ℕ) → List (ℤ × ℤ) → Option (List ℕ) → Type 0
Leaves all from left to = (text : List ℕ) × Appends from to text × ((more : List ℕ) → AreMoreSpans left more → AreMoreSpans all (text ++ more))

pub leaves_all : (all : List (ℤ × ℤ)) (from : Option (List ℕ)) → Leaves all from all from
leaves_all all from = ([], Appends-nil from, λ more h. h)

-- one more run is written
pub one_more : (all left others : List (ℤ × ℤ)) (run : ℤ × ℤ) (x y z w : Option (List ℕ)) → Leaves all x left y → left ≡ run ∷ others → Appends y z (codes ", ") → ((text : List ℕ) × IsSpanText run text × Appends z w text) → Leaves all x others w
one_more all left others run x y z w h is comma s = (
  h.0 ++ (codes ", " ++ s.0),
  Appends-trans x y w h.0 (codes ", " ++ s.0) h.1 (Appends-trans y z w (codes ", ") s.0 comma s.2),
  λ more k.
      let front : AreMoreSpans left (codes ", " ++ (s.0 ++ more)) = subst (λ (L : List (ℤ × ℤ)). AreMoreSpans L (codes ", " ++ (s.0 ++ more))) (sym is) (s.0, more, s.1, k, refl) in
      let same : h.0 ++ (codes ", " ++ (s.0 ++ more)) ≡ (h.0 ++ (codes ", " ++ s.0)) ++ more = sym (append_assoc h.0 (codes ", " ++ s.0) more) in
      subst (λ (t : List ℕ). AreMoreSpans all t) same (h.2 (codes ", " ++ (s.0 ++ more)) front),
)

-- no run is left
pub all_written : (all left : List (ℤ × ℤ)) (x y : Option (List ℕ)) → Leaves all x left y → left ≡ [] → (text : List ℕ) × AreMoreSpans all text × Appends x y text
all_written all left x y h is = (
  h.0,
  subst (λ (t : List ℕ). AreMoreSpans all t) (append-nil h.0) (h.2 [] (subst (λ (L : List (ℤ × ℤ)). AreMoreSpans L []) (sym is) refl)),
  h.1,
)

-- the first run, the others and a newline
pub whole_line : (runs others : List (ℤ × ℤ)) (run : ℤ × ℤ) (x y z w : Option (List ℕ)) → runs ≡ run ∷ others → ((text : List ℕ) × IsSpanText run text × Appends x y text) → ((text : List ℕ) × AreMoreSpans others text × Appends y z text) → Appends z w (10 ∷ [])
    → (text : List ℕ) × AreSpansText runs text × Appends x w (with_newline text)
whole_line runs others run x y z w is first rest newline = (
  first.0 ++ rest.0,
  subst (λ (L : List (ℤ × ℤ)). AreSpansText L (first.0 ++ rest.0)) (sym is) (first.0, rest.0, first.1, rest.1, refl),
  Appends-trans x z w (first.0 ++ rest.0) (10 ∷ []) (Appends-trans x y z first.0 rest.0 first.2 rest.2) newline,
)

pub no_run : (runs : List (ℤ × ℤ)) (x y : Option (List ℕ)) → runs ≡ [] → Appends x y (with_newline (codes "none")) → (text : List ℕ) × AreSpansText runs text × Appends x y (with_newline text)
no_run runs x y is written = (codes "none", subst (λ (L : List (ℤ × ℤ)). AreSpansText L (codes "none")) (sym is) refl, written)
