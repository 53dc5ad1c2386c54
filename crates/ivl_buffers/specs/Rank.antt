-- Members by the number of members below them.
--     AnswersRank whole v S old new told      the number of members of S below v is written and 0 returned; or
--         nothing is written and a code is returned
--     AnswersNth whole i S old new told      the member of S with i members below it is written and 1 returned; or
--         nothing is written, and 0 is returned if S has no more than i members, or a code
use Rattle.std.specs.Prelude.{◌≡◌, ◌⊎◌, ◌≤◌, ℕ, ℤ, pos}
use Rattle.ivl_laws.specs.Counts.{IsCountOf}
use Rattle.ivl_laws.specs.Sets.{Below, IsBetween, IsSubset}
use Rattle.ivl_buffers.specs.Answers.{out_of_memory, out_of_range}

-- 0 is told where the number is written
abbrev pub AnswersRank : ℤ × ℤ → ℤ → (ℤ → Type 0) → ℕ → ℕ → ℤ → Type 0
AnswersRank whole v S old new told = ((¬ (IsSubset S (IsBetween whole))) × (told ≡ out_of_range) × (new ≡ old))
    ⊎ (IsSubset S (IsBetween whole) × (((told ≡ out_of_memory) × (new ≡ old)) ⊎ ((told ≡ pos 0) × IsCountOf new (Below v S))))

-- 1 is told where the member is written, and 0 where S has no more than i members
abbrev pub AnswersNth : ℤ × ℤ → ℕ → (ℤ → Type 0) → ℤ → ℤ → ℤ → Type 0
AnswersNth whole i S old new told = ((¬ (IsSubset S (IsBetween whole))) × (told ≡ out_of_range) × (new ≡ old))
    ⊎ (IsSubset S (IsBetween whole) × (((told ≡ out_of_memory) × (new ≡ old))
    ⊎ ((told ≡ pos 1) × S new × IsCountOf i (Below new S))
    ⊎ ((told ≡ pos 0) × ((n : ℕ) → IsCountOf n S → n ≤ i) × (new ≡ old))))
