-- The runs that a step shows are not crossed.
use Rattle.std.proofs.Common.{◌≡◌, ℤ, ◌≤ℤ◌, List, [], ◌∷◌, inl, inr, subst, sym}
use Rattle.std.specs.Prelude.{All}
use Rattle.std.proofs.lemmas.List.Elements.{All-nil, All-cons}
use Rattle.ivl_laws.specs.Runs.{IsMaximal}
use Rattle.ivl_calculator.specs.Actions.{Making, pairs, union, intersection, difference, symmetric, complement, at_least, at_most, above, below, plus, minus, times, plus_value, minus_value, times_value, Question, has, size, count, low, high, same, subset, meets, show, Action, make, ask, Answer, done, cut, flag, sized, counted, value, runs, refused}
use Rattle.ivl_calculator.specs.Step.{IsReportOf, IsAnswerTo, IsEffectOf, MayStep}
use Rattle.ivl_calculator_lines.specs.Printed.{HasRunsInOrder}

in_order : (list : List (ℤ × ℤ)) → IsMaximal list → All (λ p. p.0 ≤ℤ p.1) list
in_order [] h = All-nil (λ p. p.0 ≤ℤ p.1)
in_order (p ∷ list) h = All-cons (λ q. q.0 ≤ℤ q.1) p list h.0 (in_order list h.2)

same_answer : (a b : Answer) → a ≡ b → HasRunsInOrder b → HasRunsInOrder a
same_answer a b e h = let P : Answer → Type 0 = λ x. HasRunsInOrder x in subst P (sym e) h

reported : (whole : ℤ × ℤ) (s : List (List (ℤ × ℤ))) (making : Making) (answer : Answer) → IsReportOf whole s making answer → HasRunsInOrder answer
reported whole s (pairs list) answer h = same_answer answer done h tt
reported whole s (union a b) answer h = same_answer answer done h tt
reported whole s (intersection a b) answer h = same_answer answer done h tt
reported whole s (difference a b) answer h = same_answer answer done h tt
reported whole s (symmetric a b) answer h = same_answer answer done h tt
reported whole s (complement a) answer h = same_answer answer done h tt
reported whole s (at_least a v) answer h = same_answer answer done h tt
reported whole s (at_most a v) answer h = same_answer answer done h tt
reported whole s (above a v) answer h = same_answer answer done h tt
reported whole s (below a v) answer h = same_answer answer done h tt
reported whole s (plus a b) answer h = same_answer answer (cut h.0) h.1 tt
reported whole s (minus a b) answer h = same_answer answer (cut h.0) h.1 tt
reported whole s (times a b) answer h = same_answer answer done h tt
reported whole s (plus_value a v) answer h = same_answer answer done h tt
reported whole s (minus_value a v) answer h = same_answer answer done h tt
reported whole s (times_value a v) answer h = same_answer answer done h tt

answered : (s : List (List (ℤ × ℤ))) (question : Question) (answer : Answer) → IsAnswerTo s question answer → HasRunsInOrder answer
answered s (has a v) answer h = same_answer answer (flag h.0) h.1 tt
answered s (size a) answer h = same_answer answer (sized h.0) h.1 tt
answered s (count a) answer h = same_answer answer (counted _) h.1 tt
answered s (low a) answer h = same_answer answer (value h.0) h.1 tt
answered s (high a) answer h = same_answer answer (value h.0) h.1 tt
answered s (same a b) answer h = same_answer answer (flag h.0) h.1 tt
answered s (subset a b) answer h = same_answer answer (flag h.0) h.1 tt
answered s (meets a b) answer h = same_answer answer (flag h.0) h.1 tt
answered s (show a) answer h = same_answer answer (runs h.0) h.1 (in_order h.0 h.2.maximal)

effected : (whole : ℤ × ℤ) (old new : List (List (ℤ × ℤ))) (action : Action) (answer : Answer) → IsEffectOf whole old action answer new → HasRunsInOrder answer
effected whole old new (make r making) answer h = reported whole old making answer h.0
effected whole old new (ask question) answer h = answered old question answer h.0

pub shown_in_order : (whole : ℤ × ℤ) (old new : List (List (ℤ × ℤ))) (action : Action) (answer : Answer) → MayStep whole old action answer new → HasRunsInOrder answer
shown_in_order whole old new action answer h = elim h [
  | inl why ↦ same_answer answer (refused why.0) why.1 tt
  | inr rest ↦ elim rest [
    | inl allowed ↦ effected whole old new action answer allowed.1
    | inr lacks ↦ same_answer answer _ lacks.lacking tt
  ]
]
