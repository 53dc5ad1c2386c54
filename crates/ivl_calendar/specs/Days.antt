-- Days by number, where 1970-01-01 is day 0, and their texts.
--     IsDayText day text      the text is that of the date with this number, as `2026-03-01`
--     IsWindow first last window      the texts of the first and the last day of the window, which has a day
--     IsSpanText span text      the first day and the last, as `2026-03-05 to 2026-03-07`
--     AreMoreSpans spans text      each span after a comma
--     AreSpansText spans text      the spans with commas between, or `none`
use Rattle.std.specs.Prelude.{◌≡◌, ℕ, ℤ, ◌≤ℤ◌, List, [], ◌∷◌, ◌++◌, codes}
use Rattle.jiff.specs.Words.{epoch_day, date_text}
use Rattle.jiff_core.specs.declared.civil.date.Date.{Date}

-- each `Date` is a date of the Gregorian calendar, of the years from -9999 to 9999
abbrev pub IsDayText : ℤ → List ℕ → Type 0
IsDayText day text = (date : Date) × (epoch_day date ≡ day) × (text ≡ date_text date)

abbrev pub IsWindow : List ℕ → List ℕ → ℤ × ℤ → Type 0
IsWindow first last window = IsDayText window.0 first × IsDayText window.1 last × (window.0 ≤ℤ window.1)

abbrev pub IsSpanText : ℤ × ℤ → List ℕ → Type 0
IsSpanText span text =
    (first last : List ℕ) × IsDayText span.0 first × IsDayText span.1 last × (text ≡ first ++ (codes " to " ++ last))

abbrev pub AreMoreSpans : List (ℤ × ℤ) → List ℕ → Type 0
AreMoreSpans [] text = text ≡ []
AreMoreSpans (span ∷ spans) text =
    (first rest : List ℕ) × IsSpanText span first × AreMoreSpans spans rest × (text ≡ codes ", " ++ (first ++ rest))

abbrev pub AreSpansText : List (ℤ × ℤ) → List ℕ → Type 0
AreSpansText [] text = text ≡ codes "none"
AreSpansText (span ∷ spans) text =
    (first rest : List ℕ) × IsSpanText span first × AreMoreSpans spans rest × (text ≡ first ++ rest)
