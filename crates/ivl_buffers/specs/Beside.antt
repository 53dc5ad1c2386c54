-- The greatest member up to a number, and the run that holds a number.
--     IsPreviousIn v S previous      the greatest member of S that is at most v; none where there is none
--     AnswersPrevious v S old new told      that member is written, and true told; else nothing is written
--     AnswersRun v S old new told      the same for the run of S that holds v, which there is exactly if v is a
--         member
use Rattle.std.specs.Prelude.{◌≡◌, ◌⊎◌, ℤ, Option, MatchOption, Bool, true, false}
use Rattle.ivl_laws.specs.Sets.{AtMost, HasNone}
use Rattle.ivl_places.specs.Neighbours.{IsGreatest, IsRunWith}

abbrev pub IsPreviousIn : ℤ → (ℤ → Type 0) → Option ℤ → Type 0
IsPreviousIn v S previous = MatchOption previous (HasNone (AtMost v S)) (λ x. IsGreatest x (AtMost v S))

abbrev pub AnswersPrevious : ℤ → (ℤ → Type 0) → ℤ → ℤ → Bool → Type 0
AnswersPrevious v S old new told = ((told ≡ true) × IsGreatest new (AtMost v S)) ⊎ ((told ≡ false) × HasNone (AtMost v S) × (new ≡ old))

abbrev pub AnswersRun : ℤ → (ℤ → Type 0) → ℤ × ℤ → ℤ × ℤ → Bool → Type 0
AnswersRun v S old new told = ((told ≡ true) × IsRunWith v S new) ⊎ ((told ≡ false) × (¬ (S v)) × (new ≡ old))
