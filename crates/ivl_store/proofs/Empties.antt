-- How many domains are empty, as domains come, go and are replaced.
use Rattle.std.proofs.Common.{◌≡◌, ◌∙◌, ℕ, ◌+◌, ◌-◌, ◌<◌, ◌≤◌, Bool, true, false, cond, refl, sym, ap, subst, arith, List, [], ◌∷◌, ◌++◌, length, get_or, set, take}
use Rattle.std.specs.Prelude.{ℤ, All, Any, IsTrue, ◌↔◌, nat_lt}
use Rattle.std.specs.List.{list_any}
use Rattle.std.proofs.lemmas.Bool.{true≢false}
use Rattle.std.proofs.lemmas.Bool.Decides.{nat_tests}
use Rattle.std.proofs.lemmas.List.{get_or_default, take_more}
use Rattle.std.proofs.lemmas.List.Elements.{All-get_or}
use Rattle.std.proofs.lemmas.List.Folds.{Any-from_list_any, list_any-from_Any}
use Rattle.std.proofs.lemmas.List.Sums.{get_or-le-sum_by, sum_by-cons, sum_by-set, sum_by_push}
use Rattle.ivl_laws.specs.Families.{set_at}
use Rattle.ivl_laws.specs.Runs.{Covers, IsRunListIn}
use Rattle.ivl_laws.proofs.Ranges.{none_is_nil}
use Rattle.ivl_store.specs.Posts.{HasEmpty, empty_count, has_no_run}

pub has_no_run-is : (L : List (ℤ × ℤ)) (e : Bool) → (IsTrue e ↔ L ≡ []) → has_no_run L ≡ e
has_no_run-is [] e h = sym (h.1 refl)
has_no_run-is (p ∷ L) true h = absurd (true≢false (sym (ap (λ (runs : List (ℤ × ℤ)). has_no_run runs) (h.0 refl))))
has_no_run-is (p ∷ L) false h = refl

-- one more domain
pub empties_pushed : (Ls : List (List (ℤ × ℤ))) (L : List (ℤ × ℤ)) (e : Bool) (count one : ℕ) → (IsTrue e ↔ L ≡ []) → count ≡ empty_count Ls → one ≡ cond e 1 0
    → count + one ≡ empty_count (Ls ++ L ∷ [])
empties_pushed Ls L e count one is so_far more =
    let pushed = sum_by_push (λ (s : List (ℤ × ℤ)). cond (has_no_run s) 1 0) Ls L in
    let here : cond (has_no_run L) 1 0 ≡ one = ap (λ (b : Bool). cond b 1 0) (has_no_run-is L e is) ∙ sym more in
    omega (arith, pushed, here, so_far)

-- one more of a list
pub empties_step : (Ls : List (List (ℤ × ℤ))) (i : ℕ) (L : List (ℤ × ℤ)) (e : Bool) (count one : ℕ) → i < length Ls → L ≡ get_or Ls i L → (IsTrue e ↔ L ≡ [])
    → count ≡ empty_count (take i Ls) → one ≡ cond e 1 0 → count + one ≡ empty_count (take (i + 1) Ls)
empties_step Ls i L e count one lt at is so_far more =
    empties_pushed (take i Ls) L e count one is so_far more ∙ ap (λ (s : List (ℤ × ℤ)). empty_count (take i Ls ++ s ∷ [])) at ∙ ap empty_count (sym (take_more Ls i L lt))

-- a domain in place of another
pub empties_set : (Ls : List (List (ℤ × ℤ))) (i : ℕ) (old new : List (ℤ × ℤ)) (was is : Bool) (count before after : ℕ) → i < length Ls → old ≡ get_or Ls i old
    → (IsTrue was ↔ old ≡ []) → (IsTrue is ↔ new ≡ []) → count ≡ empty_count Ls → before ≡ cond was 1 0 → after ≡ cond is 1 0
    → (before ≤ count) × (count - before + after ≡ empty_count (set Ls i new))
empties_set Ls i old new was is count before after lt at empty_before empty_after so_far less more =
    let s = sum_by-set (λ (L : List (ℤ × ℤ)). cond (has_no_run L) 1 0) Ls i new old lt in
    let o : cond (has_no_run (get_or Ls i old)) 1 0 ≡ before = ap (λ (L : List (ℤ × ℤ)). cond (has_no_run L) 1 0) (sym at) ∙ ap (λ (b : Bool). cond b 1 0) (has_no_run-is old was empty_before) ∙ sym less in
    let n : cond (has_no_run new) 1 0 ≡ after = ap (λ (b : Bool). cond b 1 0) (has_no_run-is new is empty_after) ∙ sym more in
    let low = get_or-le-sum_by (λ (L : List (ℤ × ℤ)). cond (has_no_run L) 1 0) Ls i old lt in
    (omega (arith, low, o, so_far), omega (arith, s, o, n, so_far, low))

-- the last domain goes
pub empties_popped : (Ls left : List (List (ℤ × ℤ))) (L : List (ℤ × ℤ)) (e : Bool) (count one : ℕ) → Ls ≡ left ++ L ∷ [] → (IsTrue e ↔ L ≡ []) → count ≡ empty_count Ls → one ≡ cond e 1 0
    → (one ≤ count) × (count - one ≡ empty_count left)
empties_popped Ls left L e count one is empty so_far more =
    let all : empty_count left + one ≡ count = empties_pushed left L e (empty_count left) one empty refl more ∙ sym (so_far ∙ ap empty_count is) in
    (omega (arith, all), omega (arith, all))

-- ---- whether some domain is empty, by the count

counted_some : (Ls : List (List (ℤ × ℤ))) → 0 < empty_count Ls → list_any has_no_run Ls ≡ true
counted_some [] h = absurd (omega (arith, h))
counted_some ([] ∷ Ls) h = refl
counted_some ((p ∷ L) ∷ Ls) h = let e = sum_by-cons (λ (s : List (ℤ × ℤ)). cond (has_no_run s) 1 0) (p ∷ L) Ls in counted_some Ls (omega (arith, h, e))

some_counted : (Ls : List (List (ℤ × ℤ))) → list_any has_no_run Ls ≡ true → 0 < empty_count Ls
some_counted [] h = absurd (true≢false (sym h))
some_counted ([] ∷ Ls) h = let e = sum_by-cons (λ (s : List (ℤ × ℤ)). cond (has_no_run s) 1 0) [] Ls in omega (arith, e)
some_counted ((p ∷ L) ∷ Ls) h = let e = sum_by-cons (λ (s : List (ℤ × ℤ)). cond (has_no_run s) 1 0) (p ∷ L) Ls in let n = some_counted Ls h in omega (arith, n, e)

pub no_run_from : (L : List (ℤ × ℤ)) → has_no_run L ≡ true → L ≡ []
no_run_from [] e = refl
no_run_from (p ∷ L) e = absurd (true≢false (sym e))

pub some_empty : (Ls : List (List (ℤ × ℤ))) → (0 < empty_count Ls) ↔ Any (λ L. L ≡ []) Ls
some_empty Ls = (
  (λ h. let some = Any-from_list_any has_no_run Ls (counted_some Ls h) in (some.0, some.1, some.2, some.3, no_run_from some.1 some.4)),
  (λ some. some_counted Ls (list_any-from_Any has_no_run Ls (some.0, some.1, some.2, some.3, ap (λ (L : List (ℤ × ℤ)). has_no_run L) some.4))),
)

pub is_positive : (n : ℕ) (b : Bool) → b ≡ nat_lt 0 n → IsTrue b ↔ (0 < n)
is_positive n b e = grind (arith, nat_tests)

-- so some variable has no member
pub some_variable : (whole : ℤ × ℤ) (Ls : List (List (ℤ × ℤ))) → All (IsRunListIn whole) Ls → (0 < empty_count Ls) ↔ HasEmpty (length Ls) (set_at Ls)
some_variable whole Ls runs = (
  (λ h.
      let some = (some_empty Ls).0 h in
      let is : get_or Ls some.0 [] ≡ [] = sym (get_or_default Ls some.0 some.1 [] some.2) ∙ some.3 ∙ some.4 in
      record { variable = some.0; known = some.2; empty = (λ v m. subst (λ L. Covers L v) is m) }),
  (λ h.
      let is : get_or Ls h.variable [] ≡ [] = (none_is_nil (get_or Ls h.variable []) (All-get_or (IsRunListIn whole) Ls h.variable [] h.known runs).maximal).0 h.empty in
      (some_empty Ls).1 (h.variable, get_or Ls h.variable [], h.known, get_or_default Ls h.variable (get_or Ls h.variable []) [] h.known, is)),
)
