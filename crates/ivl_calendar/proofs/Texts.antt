-- The texts of dates: no two days have the same.
use Rattle.std.proofs.Common.{◌≡◌, ◌++◌, [], ◌∷◌, ℕ, ℤ, List, Ok, Err, Result, sym, ap, ◌∙◌}
use Rattle.jiff_core.specs.Calendar.{days_from_civil}
use Rattle.jiff_core.specs.declared.civil.date.Date.{Date}
use Rattle.jiff_core.specs.declared.error.Error.{Error}
use Rattle.jiff_fmt.specs.Temporal.{DateParts, date_parts, parse_date}
use Rattle.jiff_fmt.specs.Text.{date_text, year_text, pad2}
use Rattle.jiff_fmt.proofs.RoundTrip.{parse_date-date_text}
use Rattle.ivl_calendar.specs.Days.{IsDayText}

-- a text that is read as a date is read so
read_back : (date : Date) (text : List ℕ) → text ≡ date_text date → parse_date text ≡ Ok (date_parts date)
read_back date text is = rw is (parse_date-date_text date)

same_parts : (p q : DateParts) (r : Result DateParts Error) → r ≡ Ok p → r ≡ Ok q → p ≡ q
same_parts p q r is_p is_q = cc

same_read : (a b : Date) (text : List ℕ) → text ≡ date_text a → text ≡ date_text b → date_parts a ≡ date_parts b
same_read a b text is_a is_b = same_parts (date_parts a) (date_parts b) (parse_date text) (read_back a text is_a) (read_back b text is_b)

-- a text is that of one day at most
pub same_day : (a b : ℤ) (text : List ℕ) → IsDayText a text → IsDayText b text → a ≡ b
same_day a b text h k =
    let parts = same_read h.0 k.0 text h.2 k.2 in
    sym h.1 ∙ ap (λ (p : DateParts). days_from_civil p.year p.month p.day) parts ∙ k.1

-- a text that is not read is that of no day
pub not_read : (day : ℤ) (text : List ℕ) (error : Error) → Err error ≡ parse_date text → IsDayText day text → ⊥
not_read day text error fails h = let e = read_back h.0 text h.2 in cc

-- nor is a text that is read as a date with another text
pub read_otherwise : (date : Date) (day : ℤ) (text : List ℕ) → Ok (date_parts date) ≡ parse_date text → (text ≡ date_text date → ⊥) → IsDayText day text → ⊥
read_otherwise date day text read other h =
    let parts = same_parts (date_parts h.0) (date_parts date) (parse_date text) (read_back h.0 text h.2) (sym read) in
    other (h.2 ∙ ap (λ (p : DateParts). year_text p.year ++ 45 ∷ [] ++ pad2 p.month ++ 45 ∷ [] ++ pad2 p.day) parts)
