-- Two steps of one action from one state agree, where neither lacks memory; and so do two runs.
use Rattle.std.proofs.Common.{◌≡◌, ◌≢◌, ◌∙◌, ◌↔◌, inl, inr, ℕ, ℤ, Bool, true, false, IsTrue, List, [], ◌∷◌, length, slice_set, Option, None, Some, refl, sym, ap, subst}
use Rattle.std.specs.Prelude.{All}
use Rattle.std.proofs.lemmas.List.Elements.{All-head, All-tail}
use Rattle.ivl_laws.specs.Runs.{IsRunsOf}
use Rattle.ivl_laws.proofs.Counts.{count_is_unique}
use Rattle.ivl_laws.proofs.Runs.{≤ℤ_antisymm}
use Rattle.ivl_laws.proofs.SetLaws.{IsRunsOf-unique, same_members_refl}
use Rattle.ivl_calculator.specs.declared.reply.Refusal.{Refusal}
use Rattle.ivl_calculator.specs.declared.reply.Refusal.TheVariants.{Register, Range, Fit, Memory}
use Rattle.ivl_calculator.specs.Actions.{Making, pairs, union, intersection, difference, symmetric, complement, at_least, at_most, above, below, plus, minus, times, plus_value, minus_value, times_value, Question, has, size, count, low, high, same, subset, meets, show, Action, make, ask, Answer, cut, flag, sized, counted, value, runs, refused}
use Rattle.ivl_laws.specs.Families.{set_at}
use Rattle.ivl_calculator.specs.Step.{Made, IsReportOf, IsPut, IsLeastOf, IsGreatestOf, IsEndOf, Tells, TellsCut, IsAnswerTo, IsRefusedFor, IsAllowed, IsEffectOf, MayStep, Run}

-- ---- flags, lists and ends

tells_one : (P : Type 0) (b c : Bool) → (IsTrue b ↔ P) → (IsTrue c ↔ P) → b ≡ c
tells_one P true true h k = refl
tells_one P true false h k = sym (k.1 (h.0 refl))
tells_one P false true h k = h.1 (k.0 refl)
tells_one P false false h k = refl

flags_agree : (P : Type 0) (x y : Answer) → Tells x P → Tells y P → x ≡ y
flags_agree P x y (b, e, h) (c, f, k) = e ∙ ap flag (tells_one P b c h k) ∙ sym f

cuts_agree : (whole : ℤ × ℤ) (S : ℤ → Type 0) (x y : Answer) → TellsCut whole S x → TellsCut whole S y → x ≡ y
cuts_agree whole S x y (b, e, h) (c, f, k) = e ∙ ap cut (tells_one _ b c h k) ∙ sym f

one_list : (S : ℤ → Type 0) (L M : List (ℤ × ℤ)) → IsRunsOf L S → IsRunsOf M S → L ≡ M
one_list S L M = IsRunsOf-unique S S L M (same_members_refl S)

least_agree : (S : ℤ → Type 0) (m n : Option ℤ) → IsEndOf IsLeastOf S m → IsEndOf IsLeastOf S n → m ≡ n
least_agree S None None h k = refl
least_agree S None (Some y) h k = absurd (h y k.0)
least_agree S (Some x) None h k = absurd (k x h.0)
least_agree S (Some x) (Some y) h k = ap Some (≤ℤ_antisymm x y (h.1 y k.0) (k.1 x h.0))

greatest_agree : (S : ℤ → Type 0) (m n : Option ℤ) → IsEndOf IsGreatestOf S m → IsEndOf IsGreatestOf S n → m ≡ n
greatest_agree S None None h k = refl
greatest_agree S None (Some y) h k = absurd (h y k.0)
greatest_agree S (Some x) None h k = absurd (k x h.0)
greatest_agree S (Some x) (Some y) h k = ap Some (≤ℤ_antisymm x y (k.1 x h.0) (h.1 y k.0))

-- ---- effects

reports_agree : (whole : ℤ × ℤ) (s : List (List (ℤ × ℤ))) (making : Making) (x y : Answer) → IsReportOf whole s making x → IsReportOf whole s making y → x ≡ y
reports_agree whole s (pairs list) x y e f = e ∙ sym f
reports_agree whole s (union a b) x y e f = e ∙ sym f
reports_agree whole s (intersection a b) x y e f = e ∙ sym f
reports_agree whole s (difference a b) x y e f = e ∙ sym f
reports_agree whole s (symmetric a b) x y e f = e ∙ sym f
reports_agree whole s (complement a) x y e f = e ∙ sym f
reports_agree whole s (at_least a v) x y e f = e ∙ sym f
reports_agree whole s (at_most a v) x y e f = e ∙ sym f
reports_agree whole s (above a v) x y e f = e ∙ sym f
reports_agree whole s (below a v) x y e f = e ∙ sym f
reports_agree whole s (plus a b) x y h k = cuts_agree whole _ x y h k
reports_agree whole s (minus a b) x y h k = cuts_agree whole _ x y h k
reports_agree whole s (times a b) x y e f = e ∙ sym f
reports_agree whole s (plus_value a v) x y e f = e ∙ sym f
reports_agree whole s (minus_value a v) x y e f = e ∙ sym f
reports_agree whole s (times_value a v) x y e f = e ∙ sym f

puts_agree : (whole : ℤ × ℤ) (old : List (List (ℤ × ℤ))) (r : ℕ) (making : Making) (new next : List (List (ℤ × ℤ))) → IsPut whole old r making new → IsPut whole old r making next → new ≡ next
puts_agree whole old r making new next (L, l, e) (M, m, f) = e ∙ ap (slice_set old r) (one_list (Made whole old making) L M l m) ∙ sym f

answers_agree : (s : List (List (ℤ × ℤ))) (question : Question) (x y : Answer) → IsAnswerTo s question x → IsAnswerTo s question y → x ≡ y
answers_agree s (has a v) x y h k = flags_agree _ x y h k
answers_agree s (size a) x y (m, e, h) (n, f, k) = e ∙ ap sized (count_is_unique (set_at s a) m n h k) ∙ sym f
answers_agree s (count a) x y (L, e, h) (M, f, k) = e ∙ ap (λ (N : List (ℤ × ℤ)). counted (length N)) (one_list (set_at s a) L M h k) ∙ sym f
answers_agree s (low a) x y (m, e, h) (n, f, k) = e ∙ ap value (least_agree (set_at s a) m n h k) ∙ sym f
answers_agree s (high a) x y (m, e, h) (n, f, k) = e ∙ ap value (greatest_agree (set_at s a) m n h k) ∙ sym f
answers_agree s (same a b) x y h k = flags_agree _ x y h k
answers_agree s (subset a b) x y h k = flags_agree _ x y h k
answers_agree s (meets a b) x y h k = flags_agree _ x y h k
answers_agree s (show a) x y (L, e, h) (M, f, k) = e ∙ ap runs (one_list (set_at s a) L M h k) ∙ sym f

effects_agree : (whole : ℤ × ℤ) (old : List (List (ℤ × ℤ))) (action : Action) (x y : Answer) (new next : List (List (ℤ × ℤ)))
    → IsEffectOf whole old action x new → IsEffectOf whole old action y next → (x ≡ y) × (new ≡ next)
effects_agree whole old (make r making) x y new next (h, p) (k, q) = (reports_agree whole old making x y h k, puts_agree whole old r making new next p q)
effects_agree whole old (ask question) x y new next (h, e) (k, f) = (answers_agree old question x y h k, e ∙ sym f)

-- ---- refusals

module _ (whole : ℤ × ℤ) (s : List (List (ℤ × ℤ))) (action : Action) where
  refused_or_allowed : (why : Refusal) → IsRefusedFor whole s action why → ¬ (IsAllowed whole s action)
  refused_or_allowed Register h (names, given, fits) = h names
  refused_or_allowed Range (_, h) (names, given, fits) = h given
  refused_or_allowed Fit (_, _, h) (names, given, fits) = h fits
  refused_or_allowed Memory h a = absurd h

  refusals_agree : (v w : Refusal) → IsRefusedFor whole s action v → IsRefusedFor whole s action w → v ≡ w
  refusals_agree Register Register h k = refl
  refusals_agree Register Range h (names, k) = absurd (h names)
  refusals_agree Register Fit h (names, _, _) = absurd (h names)
  refusals_agree Range Register (names, h) k = absurd (k names)
  refusals_agree Range Range h k = refl
  refusals_agree Range Fit (names, h) (_, given, k) = absurd (h given)
  refusals_agree Fit Register (names, _, _) k = absurd (k names)
  refusals_agree Fit Range (_, given, h) (names, k) = absurd (k given)
  refusals_agree Fit Fit h k = refl
  refusals_agree Memory w h k = absurd h
  refusals_agree Register Memory h k = absurd k
  refusals_agree Range Memory h k = absurd k
  refusals_agree Fit Memory h k = absurd k

-- ---- steps and runs

pub steps_agree : (whole : ℤ × ℤ) (old : List (List (ℤ × ℤ))) (action : Action) (answer other : Answer) (new next : List (List (ℤ × ℤ)))
    → answer ≢ refused Memory → other ≢ refused Memory
    → MayStep whole old action answer new → MayStep whole old action other next → (answer ≡ other) × (new ≡ next)
steps_agree whole old action x y new next m n (inl (v, e, h, p)) (inl (w, f, k, q)) = (e ∙ ap refused (refusals_agree whole old action v w h k) ∙ sym f, p ∙ sym q)
steps_agree whole old action x y new next m n (inl (v, e, h, p)) (inr (inl (a, k))) = absurd (refused_or_allowed whole old action v h a)
steps_agree whole old action x y new next m n (inr (inl (a, h))) (inl (w, f, k, q)) = absurd (refused_or_allowed whole old action w k a)
steps_agree whole old action x y new next m n (inr (inl (a, h))) (inr (inl (b, k))) = effects_agree whole old action x y new next h k
steps_agree whole old action x y new next m n (inl h) (inr (inr k)) = absurd (n k.lacking)
steps_agree whole old action x y new next m n (inr (inl h)) (inr (inr k)) = absurd (n k.lacking)
steps_agree whole old action x y new next m n (inr (inr h)) k = absurd (m h.lacking)

pub runs_agree : (whole : ℤ × ℤ) (old : List (List (ℤ × ℤ))) (actions : List Action) (answers others : List Answer) (new next : List (List (ℤ × ℤ)))
    → All (λ a. a ≢ refused Memory) answers → All (λ a. a ≢ refused Memory) others
    → Run whole old actions answers new → Run whole old actions others next → (answers ≡ others) × (new ≡ next)
runs_agree whole old [] [] [] new next m n h k = (refl, h ∙ sym k)
runs_agree whole old [] (x ∷ xs) ys new next m n h k = absurd h
runs_agree whole old [] [] (y ∷ ys) new next m n h k = absurd k
runs_agree whole old (a ∷ actions) [] ys new next m n h k = absurd h
runs_agree whole old (a ∷ actions) (x ∷ xs) [] new next m n h k = absurd k
runs_agree whole old (a ∷ actions) (x ∷ xs) (y ∷ ys) new next m n (s, p, h) (t, q, k) =
    let first = steps_agree whole old a x y s t (All-head (λ z. z ≢ refused Memory) x xs m) (All-head (λ z. z ≢ refused Memory) y ys n) p q in
    let rest = runs_agree whole s actions xs ys new next (All-tail (λ z. z ≢ refused Memory) x xs m) (All-tail (λ z. z ≢ refused Memory) y ys n) h (subst (λ (u : List (List (ℤ × ℤ))). Run whole u actions ys next) (sym first.1) k) in
    (ap (λ z. z ∷ xs) first.0 ∙ ap (λ zs. y ∷ zs) rest.0, rest.1)
