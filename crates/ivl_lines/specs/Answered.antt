-- What is written for lines one after another.
--     MayBeLost line      there may be no memory for the bytes of this line
--     AnswersOrLoses lost allowed old line text new      from old, this text may answer the line, and the state go on to new
--     IsAnswered allowed old lines text new      the same as `allowed` for lines one after another, the state handed
--         on
use Rattle.std.specs.Prelude.{◌≡◌, ◌⊎◌, ◌<◌, ℕ, List, [], ◌∷◌, ◌++◌, length}

-- for the first 65,536 there always is
abbrev pub MayBeLost : List ℕ → Type 0
MayBeLost line = 65536 < length line

-- as it is allowed; or the line is lost, which is all that is said, and changes nothing
abbrev pub AnswersOrLoses : {S : Type 0} → List ℕ → (S → List ℕ → List ℕ → S → Type 0) → S → List ℕ → List ℕ → S → Type 0
AnswersOrLoses lost allowed old line text new = allowed old line text new ⊎ (MayBeLost line × (text ≡ lost) × (new ≡ old))

abbrev pub IsAnswered : {S : Type 0} → (S → List ℕ → List ℕ → S → Type 0) → S → List (List ℕ) → List ℕ → S → Type 0
IsAnswered allowed old [] text new = (text ≡ []) × (new ≡ old)
IsAnswered {S} allowed old (line ∷ lines) text new =
    (next : S) × (first rest : List ℕ) × allowed old line first next × IsAnswered allowed next lines rest new × (text ≡ first ++ rest)
