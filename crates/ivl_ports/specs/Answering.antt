-- What a session answers to a line, and the free ports that are left. A state is the list of the runs of the free ports.
--     Shows words old text new      the answer to `free`: how many ports are free, and which
--     AnswersCommand old name words text new      the answer to a command; it keeps the free ports within those from 1024 to 65535
--     AnswersLine old line text new      the answer to a line
use Rattle.std.specs.Prelude.{◌≡◌, ℕ, ℤ, List, [], ◌∷◌, ◌++◌, bytes_eq, codes, decimal, MatchBool, slice_index, ◌==◌}
use Rattle.ivl_laws.specs.Counts.{IsCountOf}
use Rattle.ivl_laws.specs.Runs.{Covers}
use Rattle.ivl_lines.specs.Commands.{AnswersByCommand}
use Rattle.ivl_lines.specs.Lines.{with_newline}
use Rattle.ivl_lines.specs.Sets.{pairs_text}
use Rattle.ivl_allocator.specs.Answers.{Gives, IsFreeSet, Takes, SaysOnly}
use Rattle.ivl_allocator.specs.Faults.{no_such_command, right_form}
use Rattle.ivl_allocator.specs.Requests.{given_of, taken_of}
use Rattle.ivl_ports.specs.Helps.{port_help_line}

abbrev pub Shows : List (List ℕ) → List (ℤ × ℤ) → List ℕ → List (ℤ × ℤ) → Type 0
Shows [] old text new =
    ((size : ℕ) × IsCountOf size (Covers old) × (text ≡ decimal size ++ (codes " free: " ++ with_newline (pairs_text old)))) × (new ≡ old)
Shows (word ∷ words) old text new = SaysOnly (right_form (codes "free")) old text new

-- by the command and the words after it; a comment begins with `#`, which is 35, and has no answer
abbrev pub AnswersCommand : List (ℤ × ℤ) → List ℕ → List (List ℕ) → List ℕ → List (ℤ × ℤ) → Type 0
AnswersCommand old name words text new =
    MatchBool (bytes_eq name (codes "take")) (Takes (taken_of 1024 65535 65535 words) old text new)
    (MatchBool (bytes_eq name (codes "give")) (Gives (given_of 1024 65535 words) old text new)
    (MatchBool (bytes_eq name (codes "free")) (Shows words old text new)
    (MatchBool (bytes_eq name (codes "help")) (SaysOnly (port_help_line words) old text new)
    (MatchBool (slice_index name 0 == 35) (SaysOnly [] old text new)
    (SaysOnly (no_such_command name) old text new)))))
    × (IsFreeSet 1024 65535 old → IsFreeSet 1024 65535 new)

abbrev pub AnswersLine : List (ℤ × ℤ) → List ℕ → List ℕ → List (ℤ × ℤ) → Type 0
AnswersLine old line text new = AnswersByCommand AnswersCommand old line text new
