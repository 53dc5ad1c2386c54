-- What a session answers, from the state that it begins with.
use Rattle.std.proofs.Common.{◌≡◌, ℕ, List, Option, Some, None, subst}
use Rattle.std.specs.Prelude.{IfSome}
use Rattle.std.specs.Io.KnownBytes.{Appends, Consumes}
use Rattle.ivl_lines.specs.Answered.{IsAnswered}
use Rattle.ivl_lines.specs.Lines.{ended_lines_of, lines_of}

module _ {S : Type 0} (allowed : S → List ℕ → List ℕ → S → Type 0) (start new end : S) (is : start ≡ new) where
  -- all lines
  pub from_start : (bytes x y : Option (List ℕ)) → IfSome bytes (λ b. (text : List ℕ) × IsAnswered allowed start (lines_of b) text end × Appends x y text)
      → IfSome bytes (λ b. (text : List ℕ) × (last : S) × IsAnswered allowed new (lines_of b) text last × Appends x y text)
  from_start None x y h = tt
  from_start (Some b) x y h = (h.0, end, subst (λ (s : S). IsAnswered allowed s (lines_of b) h.0 end) is h.1, h.2)

  -- those that a newline ended, where a read failed
  pub read_from_start : (a b x y : Option (List ℕ)) → ((front : List ℕ) × (text : List ℕ) × Consumes a b front × IsAnswered allowed start (ended_lines_of front) text end × Appends x y text)
      → (front : List ℕ) × (text : List ℕ) × (last : S) × Consumes a b front × IsAnswered allowed new (ended_lines_of front) text last × Appends x y text
  read_from_start a b x y h = (h.0, h.1, end, h.2, subst (λ (s : S). IsAnswered allowed s (ended_lines_of h.0) h.1 end) is h.3, h.4)
