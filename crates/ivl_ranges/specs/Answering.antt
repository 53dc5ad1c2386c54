-- What a line is answered, and the state that is left.
--     State      the values that `i` and `k` may have, each as the list of its runs, and the length of the array
--     IsSafe s      every `i + k` is an index
--     SetsIndex, SetsOffset, SetsLength old words told new      what `i`, `k` and `length` with these words do, and what is told
--     Checks s words told      what `check` with these words tells: that all is safe, for which `i` it is, or why
--         there is no answer
--     Replies old name words told new      the same of each line, by its first word and the others
--     told_command_line name told      the answer to a command by what it tells
--     AnswersLine old line text new      the text that a line is answered with
--     HasRanges s      `i` and `k` have ranges
--     AnswersCommand old name words text new      the answer to a line by its command and the words after it
use Rattle.std.specs.Prelude.{◌≡◌, ◌≢◌, ℕ, ℤ, List, [], bytes_eq, codes, MatchBool, slice_index, ◌==◌, None, Some, Result, Ok, Err}
use Rattle.ivl_laws.specs.Runs.{Covers, IsRunsOf}
use Rattle.ivl_laws.specs.Sets.{IsSubset, Sums}
use Rattle.ivl_lines.specs.Commands.{AnswersByCommand}
use Rattle.ivl_ranges.specs.declared.reply.Fault.{Fault}
use Rattle.ivl_ranges.specs.declared.reply.Fault.TheVariants.{Command, Ranges, Length, Check, NoIndex, NoOffset, Memory}
use Rattle.ivl_ranges.specs.declared.reply.Reply.{Reply}
use Rattle.ivl_ranges.specs.declared.reply.Reply.TheVariants.{Done, Safe, SafeFor}
use Rattle.ivl_ranges.specs.Helps.{range_help_line, unknown_range_command}
use Rattle.ivl_ranges.specs.Indexes.{IsIndexOf, SafeIn}
use Rattle.ivl_ranges.specs.Printed.{reply_line}
use Rattle.ivl_ranges.specs.Ranges.{length_in, IsNoSet, IsSetOf}

pub record State : Type 0 where
  pub index : List (ℤ × ℤ)
  pub offset : List (ℤ × ℤ)
  pub length : ℕ

abbrev pub IsSafe : State → Type 0
IsSafe s = IsSubset (Sums (Covers s.index) (Covers s.offset)) (IsIndexOf s.length)

abbrev pub SetsIndex : State → List (List ℕ) → Result Reply Fault → State → Type 0
SetsIndex old words (Ok Done) new = IsSetOf words new.index × (new ≡ record old { index = new.index })
SetsIndex old words (Err Ranges) new = IsNoSet words × (new ≡ old)
SetsIndex old words (Err Memory) new = (words ≢ []) × (new ≡ old)
SetsIndex old words _ new = ⊥

abbrev pub SetsOffset : State → List (List ℕ) → Result Reply Fault → State → Type 0
SetsOffset old words (Ok Done) new = IsSetOf words new.offset × (new ≡ record old { offset = new.offset })
SetsOffset old words (Err Ranges) new = IsNoSet words × (new ≡ old)
SetsOffset old words (Err Memory) new = (words ≢ []) × (new ≡ old)
SetsOffset old words _ new = ⊥

abbrev pub SetsLength : State → List (List ℕ) → Result Reply Fault → State → Type 0
SetsLength old words (Ok Done) new = (length_in words ≡ Some new.length) × (new ≡ record old { length = new.length })
SetsLength old words (Err Length) new = (length_in words ≡ None) × (new ≡ old)
SetsLength old words _ new = ⊥

abbrev pub HasRanges : State → Type 0
HasRanges s = (s.index ≢ []) × (s.offset ≢ [])

abbrev pub Checks : State → List (List ℕ) → Result Reply Fault → Type 0
Checks s words (Ok Safe) = (words ≡ []) × HasRanges s × IsSafe s
Checks s words (Ok (SafeFor L)) = (words ≡ []) × HasRanges s × (¬ (IsSafe s)) × IsRunsOf L (SafeIn (Covers s.index) (Covers s.offset) s.length)
Checks s words (Err Check) = words ≢ []
Checks s words (Err NoIndex) = (words ≡ []) × (s.index ≡ [])
Checks s words (Err NoOffset) = (words ≡ []) × (s.index ≢ []) × (s.offset ≡ [])
Checks s words (Err Memory) = (words ≡ []) × HasRanges s × (¬ (IsSafe s))
Checks s words _ = ⊥

abbrev pub Replies : State → List ℕ → List (List ℕ) → Result Reply Fault → State → Type 0
Replies old name words told new =
    MatchBool (bytes_eq name (codes "i")) (SetsIndex old words told new)
    (MatchBool (bytes_eq name (codes "k")) (SetsOffset old words told new)
    (MatchBool (bytes_eq name (codes "length")) (SetsLength old words told new)
    (MatchBool (bytes_eq name (codes "check")) (Checks old words told × (new ≡ old))
    ((told ≡ Err Command) × (new ≡ old)))))

abbrev pub told_command_line : List ℕ → Result Reply Fault → List ℕ
told_command_line name (Err Command) = unknown_range_command name
told_command_line name told = reply_line told

-- a comment begins with `#`, which is 35, and has no answer
abbrev pub AnswersCommand : State → List ℕ → List (List ℕ) → List ℕ → State → Type 0
AnswersCommand old name words text new =
    MatchBool (bytes_eq name (codes "help")) ((text ≡ range_help_line words) × (new ≡ old))
    (MatchBool (slice_index name 0 == 35) ((text ≡ []) × (new ≡ old))
    ((told : Result Reply Fault) × Replies old name words told new × (text ≡ told_command_line name told)))

abbrev pub AnswersLine : State → List ℕ → List ℕ → State → Type 0
AnswersLine old line text new = AnswersByCommand AnswersCommand old line text new
