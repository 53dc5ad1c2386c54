-- Bytes as the lines that a newline ended, and the rest.
--     HasNoNewline bytes      no byte is a newline
--     IsSplitAtNewline bytes front rest      the bytes before the first newline, and those after it
--     Cut bytes lines rest      the bytes are these lines, each with a newline after it, and then a rest without one
--     Progress      the lines that a newline ends are answered from old to new, and the rest is left; what is written
--         meets `grows`
--     IsBegun line kept      of this line so much is kept: its bytes, or none if it is lost
use Rattle.std.specs.Prelude.{◌≡◌, ℕ, false, List, ◌∷◌, ◌++◌, All, ◌==◌, flat_map, Option, None, Some}
use Rattle.std.specs.List.{AllByRecursion}
use Rattle.ivl_lines.specs.Lines.{with_newline}
use Rattle.ivl_lines.specs.Answered.{IsAnswered, MayBeLost}

abbrev pub HasNoNewline : List ℕ → Type 0
HasNoNewline bytes = All (λ b. (b == 10) ≡ false) bytes

pub record IsSplitAtNewline (bytes front rest : List ℕ) : Type 0 where
  pub whole : bytes ≡ front ++ 10 ∷ rest
  pub first : HasNoNewline front

pub record Cut (bytes : List ℕ) (lines : List (List ℕ)) (rest : List ℕ) : Type 0 where
  pub whole : bytes ≡ flat_map with_newline lines ++ rest
  pub each : AllByRecursion HasNoNewline lines
  pub open_end : HasNoNewline rest

-- The lines that a newline ends are answered from old to new, and the rest is left. What is written meets `grows`.
pub record Progress {S : Type 0} (allowed : S → List ℕ → List ℕ → S → Type 0) (bytes : List ℕ) (rest : List ℕ) (old : S) (new : S) (grows : List ℕ → Type 0) : Type 0 where
  pub lines : List (List ℕ)
  pub text : List ℕ
  pub cut : Cut bytes lines rest
  pub answers : IsAnswered allowed old lines text new
  pub written : grows text

abbrev pub IsBegun : List ℕ → Option (List ℕ) → Type 0
IsBegun line None = MayBeLost line
IsBegun line (Some bytes) = bytes ≡ line
