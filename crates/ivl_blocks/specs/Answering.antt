-- What a session answers to a line, and the free blocks that are left. A state is the list of the runs of the free blocks.
--     run_word n      `run`, or `runs` unless it is one
--     ShowsFree words old text new      the answer to `free`: how many blocks are free, and in how many runs
--     IsLongestRun L run      the run is the first of the longest of the list
--     ShowsLongest words old text new      the answer to `largest`: the first of the longest runs of free blocks
--     AnswersCommand old name words text new      the answer to a command; it keeps the free blocks within those from 0 to 2^40 - 1
--     AnswersLine old line text new      the answer to a line
use Rattle.std.specs.Prelude.{◌≡◌, ◌⊎◌, ◌<◌, ◌≤◌, ℕ, ℤ, List, [], ◌∷◌, ◌++◌, All, bytes_eq, codes, decimal, if◌then◌else◌, length, MatchBool, slice_index, ◌==◌}
use Rattle.ivl_laws.specs.Bounds.{width_of}
use Rattle.ivl_laws.specs.Counts.{IsCountOf}
use Rattle.ivl_laws.specs.Runs.{Covers}
use Rattle.ivl_lines.specs.Commands.{AnswersByCommand}
use Rattle.ivl_lines.specs.Lines.{with_newline}
use Rattle.ivl_lines.specs.Sets.{run_text}
use Rattle.ivl_allocator.specs.Answers.{Gives, IsFreeSet, Takes, SaysOnly}
use Rattle.ivl_allocator.specs.Faults.{no_such_command, right_form}
use Rattle.ivl_allocator.specs.Requests.{given_of, taken_of}
use Rattle.ivl_blocks.specs.Helps.{block_help_line}

abbrev pub run_word : ℕ → List ℕ
run_word n = if n == 1 then codes "run" else codes "runs"

abbrev pub ShowsFree : List (List ℕ) → List (ℤ × ℤ) → List ℕ → List (ℤ × ℤ) → Type 0
ShowsFree [] old text new =
    ((size : ℕ) × IsCountOf size (Covers old) × (text ≡ decimal size ++ (codes " free in " ++ (decimal (length old) ++ (codes " " ++ with_newline (run_word (length old))))))) × (new ≡ old)
ShowsFree (word ∷ words) old text new = SaysOnly (right_form (codes "free")) old text new

-- the first of the longest runs of a list: those before it are shorter, and those after it not longer
pub record IsLongestRun (L : List (ℤ × ℤ)) (run : ℤ × ℤ) : Type 0 where
  pub before : List (ℤ × ℤ)
  pub after : List (ℤ × ℤ)
  pub parts : L ≡ before ++ run ∷ after
  pub shorter : All (λ other. width_of other < width_of run) before
  pub not_longer : All (λ other. width_of other ≤ width_of run) after

-- `none` if no block is free
abbrev pub ShowsLongest : List (List ℕ) → List (ℤ × ℤ) → List ℕ → List (ℤ × ℤ) → Type 0
ShowsLongest [] old text new =
    ((old ≡ []) × SaysOnly (with_newline (codes "none")) old text new)
    ⊎ ((run : ℤ × ℤ) × IsLongestRun old run × (text ≡ with_newline (run_text run)) × (new ≡ old))
ShowsLongest (word ∷ words) old text new = SaysOnly (right_form (codes "largest")) old text new

-- by the command and the words after it; a comment begins with `#`, which is 35, and has no answer
abbrev pub AnswersCommand : List (ℤ × ℤ) → List ℕ → List (List ℕ) → List ℕ → List (ℤ × ℤ) → Type 0
AnswersCommand old name words text new =
    MatchBool (bytes_eq name (codes "take")) (Takes (taken_of 0 1099511627775 1099511627776 words) old text new)
    (MatchBool (bytes_eq name (codes "give")) (Gives (given_of 0 1099511627775 words) old text new)
    (MatchBool (bytes_eq name (codes "free")) (ShowsFree words old text new)
    (MatchBool (bytes_eq name (codes "largest")) (ShowsLongest words old text new)
    (MatchBool (bytes_eq name (codes "help")) (SaysOnly (block_help_line words) old text new)
    (MatchBool (slice_index name 0 == 35) (SaysOnly [] old text new)
    (SaysOnly (no_such_command name) old text new))))))
    × (IsFreeSet 0 1099511627775 old → IsFreeSet 0 1099511627775 new)

abbrev pub AnswersLine : List (ℤ × ℤ) → List ℕ → List ℕ → List (ℤ × ℤ) → Type 0
AnswersLine old line text new = AnswersByCommand AnswersCommand old line text new
