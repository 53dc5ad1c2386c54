-- What a session writes for one line, and for lines after lines.
use Rattle.std.proofs.Common.{◌≡◌, ℕ, ℤ, List, [], ◌∷◌, ◌++◌, inl, inr, refl, sym, ap, ◌∙◌, subst, append_assoc}
use Rattle.std.specs.Prelude.{codes}
use Rattle.std.proofs.lemmas.List.{append-nil}
use Rattle.ivl_calculator.specs.Actions.{Action, Answer}
use Rattle.ivl_calculator.specs.Step.{Run}
use Rattle.ivl_calculator_lines.specs.Reading.{AreReadings, IsReading, Reading, blank, bad, command, lost, reading_of}
use Rattle.ivl_calculator_lines.specs.Printed.{printed}
use Rattle.ivl_lines.specs.Answered.{AnswersOrLoses, IsAnswered, MayBeLost}
use Rattle.ivl_lines.specs.Lines.{with_newline}
use Rattle.ivl_calculator_lines.specs.Session.{i64_range, actions_of, lost_text, placed, Answers, AnswersReading}

no_lines : (s : List (List (ℤ × ℤ))) → Answers s [] [] s
no_lines s = record { readings = []; read = tt; replies = []; run = refl; written = refl }

-- one line, by what it says
answers_reading : (s t : List (List (ℤ × ℤ))) (line text : List ℕ) (reading : Reading) → IsReading line reading → AnswersReading s reading text t → Answers s (line ∷ []) text t
answers_reading s t line text blank is h = record { readings = blank ∷ []; read = (is, tt); replies = []; run = h.1; written = h.0 }
answers_reading s t line text bad is h = record { readings = bad ∷ []; read = (is, tt); replies = []; run = h.1; written = h.0 ∙ sym (append-nil (with_newline (codes "bad line"))) }
answers_reading s t line text (command action) is h = record {
  readings = command action ∷ [];
  read = (is, tt);
  replies = h.0 ∷ [];
  run = (t, h.1, refl);
  written = h.2 ∙ sym (append-nil (with_newline (printed h.0)));
}
answers_reading s t line text lost is h = record { readings = lost ∷ []; read = (is, tt); replies = []; run = h.1; written = h.0 ∙ sym (append-nil lost_text) }

-- one line, read or lost
answers_line : (s t : List (List (ℤ × ℤ))) (line text : List ℕ) → AnswersOrLoses lost_text (λ old one said new. AnswersReading old (reading_of one) said new) s line text t → Answers s (line ∷ []) text t
answers_line s t line text (inl h) = answers_reading s t line text (reading_of line) (inl refl) h
answers_line s t line text (inr h) = answers_reading s t line text lost (inr (h.0, refl)) (h.1, h.2)

AreReadings-append : (ls ms : List (List ℕ)) (xs ys : List Reading) → AreReadings ls xs → AreReadings ms ys → AreReadings (ls ++ ms) (xs ++ ys)
AreReadings-append [] ms [] ys h k = k
AreReadings-append [] ms (x ∷ xs) ys h k = absurd h
AreReadings-append (l ∷ ls) ms [] ys h k = absurd h
AreReadings-append (l ∷ ls) ms (x ∷ xs) ys h k = (h.0, AreReadings-append ls ms xs ys h.1 k)

actions_of-append : (xs ys : List Reading) → actions_of (xs ++ ys) ≡ actions_of xs ++ actions_of ys
actions_of-append [] ys = refl
actions_of-append (blank ∷ xs) ys = actions_of-append xs ys
actions_of-append (bad ∷ xs) ys = actions_of-append xs ys
actions_of-append (lost ∷ xs) ys = actions_of-append xs ys
actions_of-append (command a ∷ xs) ys = ap (λ more. a ∷ more) (actions_of-append xs ys)

Run-append : (a b c : List (List (ℤ × ℤ))) (xs ys : List Action) (rs ss : List Answer) → Run i64_range a xs rs b → Run i64_range b ys ss c → Run i64_range a (xs ++ ys) (rs ++ ss) c
Run-append a b c [] ys [] ss h k = let P : List (List (ℤ × ℤ)) → Type 0 = λ s. Run i64_range s ys ss c in subst P h k
Run-append a b c [] ys (r ∷ rs) ss h k = elim h [ ]
Run-append a b c (x ∷ xs) ys [] ss h k = elim h [ ]
Run-append a b c (x ∷ xs) ys (r ∷ rs) ss h k = (h.0, h.1, Run-append h.0 b c xs ys rs ss h.2 k)

-- the first replies are all for the first lines
placed-append : (a b : List (List (ℤ × ℤ))) (xs ys : List Reading) (rs ss : List Answer) → Run i64_range a (actions_of xs) rs b → placed (xs ++ ys) (rs ++ ss) ≡ placed xs rs ++ placed ys ss
placed-append a b [] ys [] ss h = refl
placed-append a b [] ys (r ∷ rs) ss h = elim h [ ]
placed-append a b (blank ∷ xs) ys rs ss h = placed-append a b xs ys rs ss h
placed-append a b (bad ∷ xs) ys rs ss h =
    ap (λ more. with_newline (codes "bad line") ++ more) (placed-append a b xs ys rs ss h)
    ∙ sym (append_assoc (with_newline (codes "bad line")) (placed xs rs) (placed ys ss))
placed-append a b (lost ∷ xs) ys rs ss h =
    ap (λ more. lost_text ++ more) (placed-append a b xs ys rs ss h)
    ∙ sym (append_assoc lost_text (placed xs rs) (placed ys ss))
placed-append a b (command c ∷ xs) ys [] ss h = elim h [ ]
placed-append a b (command c ∷ xs) ys (r ∷ rs) ss h =
    ap (λ more. with_newline (printed r) ++ more) (placed-append h.0 b xs ys rs ss h.2)
    ∙ sym (append_assoc (with_newline (printed r)) (placed xs rs) (placed ys ss))

Answers-append : (a b c : List (List (ℤ × ℤ))) (ls ms : List (List ℕ)) (t u : List ℕ) → Answers a ls t b → Answers b ms u c → Answers a (ls ++ ms) (t ++ u) c
Answers-append a b c ls ms t u h k = record {
  readings = h.readings ++ k.readings;
  read = AreReadings-append ls ms h.readings k.readings h.read k.read;
  replies = h.replies ++ k.replies;
  run = rw actions_of-append (Run-append a b c (actions_of h.readings) (actions_of k.readings) h.replies k.replies h.run k.run);
  written = rw (h.written, k.written) (sym (placed-append a b h.readings k.readings h.replies k.replies h.run));
}

-- what answers the lines one after another answers them as a whole
pub answers_of : (s t : List (List (ℤ × ℤ))) (lines : List (List ℕ)) (text : List ℕ) → IsAnswered (AnswersOrLoses lost_text (λ old line said new. AnswersReading old (reading_of line) said new)) s lines text t → Answers s lines text t
answers_of s t [] text h = rw (h.0, h.1) (no_lines s)
answers_of s t (line ∷ lines) text h =
    let first : Answers s (line ∷ []) h.1 h.0 = answers_line s h.0 line h.1 h.3 in
    rw h.5 (Answers-append s h.0 t (line ∷ []) lines h.1 h.2 first (answers_of h.0 t lines h.2 h.4))
